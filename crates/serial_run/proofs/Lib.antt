pub mod Releases
pub mod OnRounds
pub mod OnSlices
pub mod OnChunks
pub mod OnOutcomes
