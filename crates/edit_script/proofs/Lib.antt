-- what crates above name of those below
pub use Rattle.cell_library.proofs as CellLibrary
mod AnswerLaws
pub mod CellLaws
mod Common
mod CurrentLaws
pub mod KeptCells
mod NumberLaws
mod OwnLaws
mod UseLaws
