pub mod Listing
pub mod Node
pub mod Links
pub mod Stands
pub mod Lends
