pub mod OnLists
pub mod OnReading
pub mod OnReports
pub mod OnEnds
