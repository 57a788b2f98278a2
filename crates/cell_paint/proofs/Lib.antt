-- what crates above name of those below
pub use Rattle.layout_model.proofs as LayoutModel
pub mod AgainLaws
pub mod AreaLaws
mod ChangeLaws
pub mod ColumnsLaws
mod Common
pub mod PaintLaws
mod PaintTiles
pub mod PaintTypes
pub mod PieceLaws
pub mod PlaneLaws
pub mod ShownLaws
