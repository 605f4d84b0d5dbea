pub mod Following
pub mod Loans
pub mod OneAnswer
pub mod OnLines
pub mod Staying
pub mod Taking
pub mod Whole
