pub mod Decoded
pub mod FastStep
pub mod Moves
pub mod Steps
pub mod RegisterSteps
