-- what crates above name of those below
pub use Rattle.tree_records.proofs.FloodNodes as FloodNodes
pub use Rattle.tree_records.proofs.Measures as Measures
pub use Rattle.hierarchy_model.proofs.Offences as Offences
pub use Rattle.tree_records.proofs.CellNodes as CellNodes
pub use Rattle.hierarchy_model.proofs as HierarchyModel
pub use Rattle.tree_records.proofs as TreeRecords
mod Common
pub mod LinkLaws
mod ListSums
mod ExcessLaws
pub mod RestrictionLaws
pub mod QuantityLaws
pub mod PartLinks
