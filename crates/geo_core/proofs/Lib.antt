-- what crates above name of those below
pub use Rattle.finite_sets.proofs as FiniteSets
mod Common
pub mod CornerLaws
pub mod CoveringLaws
pub mod ElementLaws
pub mod ImageLaws
pub mod NeighbourLaws
pub mod OrientationLaws
pub mod SquareLaws
pub mod SquareOrderLaws
pub mod TileSets
pub mod StripSets
