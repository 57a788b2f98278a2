-- what crates above name of those below
pub use Rattle.own_record_laws.proofs.RectContacts as RectContacts
pub use Rattle.hierarchy_model.proofs.TechModel as TechModel
pub use Rattle.own_record_laws.proofs.LayoutModel as LayoutModel
pub use Rattle.name_classes.proofs.ElementTree as ElementTree
pub use Rattle.hierarchy_model.proofs.Offences as Offences
pub use Rattle.own_record_laws.proofs.CellNodes as CellNodes
pub use Rattle.own_record_laws.proofs.FloodNodes as FloodNodes
pub use Rattle.name_classes.proofs.FullNames as FullNames
pub use Rattle.hierarchy_model.proofs as HierarchyModel
pub use Rattle.own_record_laws.proofs.Measures as Measures
pub use Rattle.name_classes.proofs as NameClasses
pub use Rattle.own_record_laws.proofs.TreeRecords as TreeRecords
pub use Rattle.own_record_laws.proofs.Names as Names
pub use Rattle.own_record_laws.proofs as OwnRecordLaws
mod Common
pub mod LiftedLinks
pub mod GroupNodes
pub mod TreeElements
pub mod Paths
pub mod OwnNames
pub mod CleanTrees
pub mod GroupNames
pub mod Representatives
pub mod RecordedNodes
pub mod GroupMerges
pub mod ToGroups
pub mod JoinedPaths
mod Standings
pub mod ElementLinks
mod OnePath
mod GlobalPaths
pub mod NodeNames
pub mod FlatNames
pub mod CircuitNodes
mod FullOrders
pub mod NodePoints
