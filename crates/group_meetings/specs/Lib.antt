-- what crates above name of those below
pub use Rattle.tree_names.specs.CellPaint as CellPaint
pub use Rattle.tree_names.specs.Names as Names
pub use Rattle.tree_names.specs.CircuitModel as CircuitModel
pub use Rattle.tree_names.specs.LayoutModel as LayoutModel
pub use Rattle.tree_names.specs.CellNodes as CellNodes
pub use Rattle.meeting_laws.specs.HierarchyModel as HierarchyModel
pub use Rattle.meeting_laws.specs as MeetingLaws
pub use Rattle.meeting_laws.specs.Offences as Offences
pub use Rattle.tree_names.specs as TreeNames
pub use Rattle.meeting_laws.specs.TreeRecords as TreeRecords
pub mod AdjustmentLaws
pub mod Laws
pub mod Members
