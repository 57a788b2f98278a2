-- what crates above name of those below
pub use Rattle.cell_tree.specs.UseOrders as UseOrders
pub use Rattle.cell_bodies.specs as CellBodies
pub use Rattle.cell_bodies.specs.CellPaint as CellPaint
pub use Rattle.cell_tree.specs as CellTree
pub use Rattle.cell_bodies.specs.LayoutModel as LayoutModel
pub use Rattle.tech_model.specs as TechModel
pub mod Additions
pub mod Contents
pub mod Edits
pub mod ElementBoxes
pub mod Faults
pub mod LawfulViews
pub mod LayoutTrees
pub mod Libraries
pub mod Limits
pub mod OwnBoxes
pub mod PartCounts
pub mod PartTiles
pub mod PutBackUses
pub mod Refusals
pub mod Restorations
pub mod Seen
pub mod Spots
pub mod UseTrees
pub mod Views
pub mod steps
