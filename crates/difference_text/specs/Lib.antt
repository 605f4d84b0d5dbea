pub mod Differences
pub mod FirstLine
pub mod Found
