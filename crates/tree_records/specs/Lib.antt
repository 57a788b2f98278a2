-- what crates above name of those below
pub use Rattle.cell_nodes.specs.FloodNodes as FloodNodes
pub use Rattle.cell_nodes.specs as CellNodes
pub use Rattle.cell_nodes.specs.CellPaint as CellPaint
pub use Rattle.cell_nodes.specs.ExtModel as ExtModel
pub use Rattle.cell_nodes.specs.LayoutModel as LayoutModel
pub use Rattle.cell_nodes.specs.Measures as Measures
pub use Rattle.cell_nodes.specs.Names as Names
pub use Rattle.offences.specs.TechModel as TechModel
pub mod FetRecords
pub mod OwnCircuits
pub mod OwnRecords
pub mod FlatLayouts
pub mod MemberGroups
pub mod NamedTrees
pub mod Merges
pub mod PlaceWeights
pub mod TreeCircuits
pub mod TreeRecords
