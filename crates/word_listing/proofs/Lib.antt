pub mod Areas
pub mod Joined
pub mod OneAnswer
pub mod Pages
pub mod PlainTexts
pub mod TextLines
