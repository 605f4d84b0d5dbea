pub mod Assembly
pub mod Constant
pub mod Encoding
pub mod Generated
pub mod Resolved
pub mod SmallImage
pub mod Sound
