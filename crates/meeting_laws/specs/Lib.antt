-- what crates above name of those below
pub use Rattle.tree_records.specs.Names as Names
pub use Rattle.tree_records.specs.FloodNodes as FloodNodes
pub use Rattle.tree_records.specs.Measures as Measures
pub use Rattle.hierarchy_model.specs as HierarchyModel
pub use Rattle.tree_records.specs as TreeRecords
pub use Rattle.hierarchy_model.specs.Offences as Offences
pub mod Laws
pub mod PartLayouts
