-- what crates above name of those below
pub use Rattle.tree_names.proofs.LayoutModel as LayoutModel
pub use Rattle.tree_names.proofs.CellNodes as CellNodes
pub use Rattle.tree_names.proofs.FullNames as FullNames
pub use Rattle.tree_names.proofs.FloodNodes as FloodNodes
pub use Rattle.meeting_laws.proofs.HierarchyModel as HierarchyModel
pub use Rattle.tree_names.proofs.Measures as Measures
pub use Rattle.meeting_laws.proofs as MeetingLaws
pub use Rattle.tree_names.proofs.NameClasses as NameClasses
pub use Rattle.tree_names.proofs.OwnRecordLaws as OwnRecordLaws
pub use Rattle.tree_names.proofs as TreeNames
pub use Rattle.meeting_laws.proofs.TreeRecords as TreeRecords
mod Common
pub mod LocalQuantities
mod PartSums
pub mod MemberTotals
pub mod GroupSums
pub mod PlacesOnce
mod FoundAdjustments
pub mod AdjustmentLaws
pub mod PartMembers
pub mod MemberMaterial
pub mod MemberSteps
pub mod RegionLaws
mod MeetingMembers
pub mod GroupRegions
mod RecordedMembers
