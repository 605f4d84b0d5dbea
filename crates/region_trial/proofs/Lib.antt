pub mod OnReach
pub mod OnLedgers
pub mod OnRegions
pub mod OnTrials
