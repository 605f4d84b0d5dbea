pub mod Reports
pub mod States
pub mod Texts
