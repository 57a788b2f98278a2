-- what crates above name of those below
pub use Rattle.ext_model.proofs.TextScan as TextScan
pub use Rattle.ext_model.proofs.FiniteSets as FiniteSets
pub use Rattle.ext_model.proofs.GeoCore as GeoCore
pub use Rattle.ext_model.proofs as ExtModel
pub use Rattle.element_tree.proofs as ElementTree
mod Common
mod Lookups
mod OwnNameLaws
mod SearchLaws
mod ReachedLaws
mod PlaceLaws
mod RecordReads
mod OrderLaws
mod ByteLaws
mod KeyLaws
mod GlobalLaws
pub mod ListOrders
mod TreeLaws
mod PathLaws
pub mod NameForms
mod TreeNames
mod TextOrders
mod KeyOrders
mod GlobalOriginLaws
mod NumberLaws
mod NameBytes
mod NamesMade
mod QueryLaws
mod OriginLaws
mod LocalReads
