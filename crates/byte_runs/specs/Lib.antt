pub mod Collection
pub mod Runs
