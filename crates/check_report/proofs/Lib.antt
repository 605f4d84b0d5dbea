pub mod OnChecks
