pub mod Kept
pub mod Opening
pub mod Progress
pub mod Quiet
pub mod Runs
pub mod Transitions
pub mod Views
