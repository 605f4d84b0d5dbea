pub mod OnPoints
pub mod OnSaved
pub mod OnViews
