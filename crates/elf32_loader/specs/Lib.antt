pub mod FaultOf
pub mod HeaderTable
pub mod LoadedImage
pub mod PageRanges
pub mod SmallImage
