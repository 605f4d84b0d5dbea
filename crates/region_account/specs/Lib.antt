pub mod Reported
pub mod Accounts
pub mod Explanation
