pub mod Held
pub mod Chunks
