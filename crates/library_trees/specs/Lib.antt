-- what crates above name of those below
pub use Rattle.cell_library.specs.CellTree as CellTree
pub use Rattle.cell_library.specs.LayoutModel as LayoutModel
pub use Rattle.cell_library.specs as CellLibrary
pub use Rattle.tree_names.specs.CellNodes as CellNodes
pub use Rattle.tree_names.specs.CircuitModel as CircuitModel
pub use Rattle.tree_names.specs.HierarchyModel as HierarchyModel
pub use Rattle.tree_names.specs.Measures as Measures
pub use Rattle.tree_names.specs.Names as Names
pub use Rattle.tree_names.specs as TreeNames
pub use Rattle.tree_names.specs.TreeRecords as TreeRecords
pub mod CellRecords
pub mod KeptRecords
pub mod RecordLaws
pub mod ElementNames
pub mod NamedCells
pub mod Laws
