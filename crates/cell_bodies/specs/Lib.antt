-- what crates above name of those below
pub use Rattle.cell_paint.specs.LayoutModel as LayoutModel
pub use Rattle.cell_paint.specs as CellPaint
pub mod Words
pub mod Numbers
pub mod Bodies
