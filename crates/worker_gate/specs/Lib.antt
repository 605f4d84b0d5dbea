pub mod Seats
pub mod Rounds
pub mod Conducting
pub mod Histories
