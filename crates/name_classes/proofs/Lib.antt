-- what crates above name of those below
pub use Rattle.partition.proofs.FiniteSets as FiniteSets
pub use Rattle.ext_model.proofs.GeoCore as GeoCore
pub use Rattle.ext_model.proofs as ExtModel
pub use Rattle.full_names.proofs.ElementTree as ElementTree
pub use Rattle.full_names.proofs as FullNames
mod Common
pub mod ListLaws
pub mod TreeLaws
pub mod PathLaws
mod TableLaws
mod SplitLaws
mod BranchLaws
mod LinkLaws
mod FaultLaws
mod RecordLaws
mod SeenLaws
mod JoinLaws
mod EndLaws
pub mod ClassLaws
