-- what crates above name of those below
pub use Rattle.cell_library.proofs as CellLibrary
mod Additions
mod Common
mod MadeCells
mod Refusals
pub mod Sizes
mod Trees
