pub mod Checks
pub mod FaultTexts
pub mod Journals
pub mod Replays
