pub mod OnByteMap
pub mod OnAreas
pub mod OnPlaces
