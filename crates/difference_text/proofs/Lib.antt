pub mod OnDifferences
pub mod OnFirstLine
