pub mod Lists
pub mod Places
pub mod Streams
pub mod Firsts
pub mod Sending
