-- what crates above name of those below
pub use Rattle.cell_paint.proofs.LayoutModel as LayoutModel
pub use Rattle.cell_paint.proofs as CellPaint
pub mod BlankLaws
pub mod GridLaws
