pub mod Trials
pub mod Reached
pub mod Finished
pub mod Regions
