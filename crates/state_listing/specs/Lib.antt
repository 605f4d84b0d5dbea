pub mod Values
pub mod Requests
pub mod Counts
pub mod Lines
pub mod Listing
pub mod FaultTexts
