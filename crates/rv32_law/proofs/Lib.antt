pub mod Keeping
pub mod OneStep
pub mod Reached
pub mod OnLeast
pub mod Differences
pub mod OutputBounds
pub mod Starts
