pub mod Growing
pub mod Views
pub mod Turning
pub mod Resting
pub mod Numbering
