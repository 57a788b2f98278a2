-- what crates above name of those below
pub use Rattle.tree_records.specs.CellPaint as CellPaint
pub use Rattle.tree_records.specs.LayoutModel as LayoutModel
pub use Rattle.tree_records.specs.CellNodes as CellNodes
pub use Rattle.tree_records.specs.Measures as Measures
pub use Rattle.tree_records.specs.Names as Names
pub use Rattle.tree_records.specs as TreeRecords
pub mod Laws
