-- what crates above name of those below
pub use Rattle.cell_library.specs as CellLibrary
pub mod Commands
pub mod Parts
pub mod Symbols
pub mod steps
