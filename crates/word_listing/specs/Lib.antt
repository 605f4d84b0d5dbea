pub mod Listing
pub mod Packing
pub mod Pieces
