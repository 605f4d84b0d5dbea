pub mod OnFileBytes
pub mod OnPlacesInTable
pub mod OnSegments
pub mod OnRangesSoFar
pub mod OnMergedRanges
pub mod OnPageRanges
pub mod OnInitialMemory
pub mod OnImage
