pub mod Conducting
pub mod Failures
pub mod Rounds
pub mod Quiet
