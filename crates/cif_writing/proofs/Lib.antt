-- what crates above name of those below
pub use Rattle.cell_library.proofs as CellLibrary
mod CommandLaws
mod Common
mod ElementLaws
mod LineLaws
mod OneText
pub mod OrderLaws
pub mod PartLaws
mod StripLaws
pub mod SymbolLaws
mod WritingLaws
