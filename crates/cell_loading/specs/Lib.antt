-- what crates above name of those below
pub use Rattle.cell_tree.specs as CellTree
pub use Rattle.mag_text.specs.CellPaint as CellPaint
pub use Rattle.mag_text.specs.CellBodies as CellBodies
pub use Rattle.mag_text.specs.LayoutModel as LayoutModel
pub use Rattle.mag_text.specs as MagText
pub mod Arrivals
pub mod CellFiles
pub mod Loads
pub mod Readings
pub mod steps
