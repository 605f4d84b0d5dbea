pub mod OnStates
