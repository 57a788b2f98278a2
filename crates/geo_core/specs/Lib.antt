-- what crates above name of those below
pub use Rattle.finite_sets.specs as FiniteSets
pub mod Areas
pub mod Covering
pub mod Elements
pub mod Images
pub mod Neighbours
pub mod Orientation
pub mod Planes
pub mod Reach
pub mod SquareOrder
pub mod Strips
