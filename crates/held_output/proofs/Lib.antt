pub mod OnHeld
pub mod OnChunks
