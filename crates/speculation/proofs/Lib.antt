pub mod Runs
pub mod Outputs
pub mod Records
pub mod ToyRuns
