pub mod View
pub mod Saved
pub mod Points
