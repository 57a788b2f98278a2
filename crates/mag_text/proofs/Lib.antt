-- what crates above name of those below
pub use Rattle.cell_library.proofs as CellLibrary
mod Common
mod DrawingSteps
pub mod UseIdLaws
mod LawfulLines
mod LawfulDrafts
mod RefusedTexts
mod WrittenTextLaws
mod ReadLines
mod LayerNames
mod ReadLabels
mod ReadBack
mod ReadText
mod StripLaws
mod CellTextLaws
mod CellFits
mod PaintAgain
mod CellsAgain
