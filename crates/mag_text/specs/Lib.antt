-- what crates above name of those below
pub use Rattle.cell_library.specs.CellPaint as CellPaint
pub use Rattle.cell_library.specs.LayoutModel as LayoutModel
pub use Rattle.tech_model.specs as TechModel
pub use Rattle.cell_library.specs.CellBodies as CellBodies
pub use Rattle.cell_library.specs as CellLibrary
pub mod NumberForms
pub mod WordForms
pub mod LineForms
pub mod Drafts
pub mod Drawings
pub mod MagTexts
pub mod WrittenTexts
pub mod WrittenLaws
pub mod ReadBack
pub mod ScaleLines
pub mod CellTexts
pub mod CellsAgain
pub mod steps
