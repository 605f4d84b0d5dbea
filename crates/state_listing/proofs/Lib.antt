pub mod OnWords
pub mod OnRequests
pub mod OnFiles
pub mod OneAnswer
pub mod OnStates
