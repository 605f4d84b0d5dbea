pub mod OnAdding
pub mod OnBelow
pub mod OnCollected
pub mod OnFirst
pub mod OnJoined
pub mod OnPages
pub mod OnRuns
