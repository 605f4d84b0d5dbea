pub mod Owner
pub mod Builder
pub mod Changes
pub mod Commands
pub mod Entries
pub mod Image
pub mod Pages
pub mod WriteSet
