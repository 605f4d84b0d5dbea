pub mod OnExplanation
pub mod OnFast
pub mod OnReported
