pub mod CallCount
pub mod Faults
pub mod InMemory
pub mod Reads
pub mod Streams
pub mod Takes
pub mod Writes
