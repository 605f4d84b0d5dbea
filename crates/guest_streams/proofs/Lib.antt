pub mod OnStreams
