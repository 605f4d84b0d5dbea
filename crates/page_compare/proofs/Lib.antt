pub mod OnEither
pub mod OnLeast
pub mod OnPagePair
pub mod OnShape
pub mod OnWalk
