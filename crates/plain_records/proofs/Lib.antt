-- what crates above name of those below
pub use Rattle.flat_limits.proofs as FlatLimits
pub use Rattle.flat_limits.proofs.ElementTree as ElementTree
mod Common
mod CutLaws
mod StepLaws
pub mod UseLaws
pub mod ThinLaws
mod WalkLaws
mod GraphLaws
mod SizeLaws
mod FoundLaws
mod ExpansionLaws
pub mod PlaceLaws
pub mod ReachLaws
mod RowLaws
pub mod PlainLaws
