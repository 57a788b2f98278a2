-- what crates above name of those below
pub use Rattle.cell_library.specs as CellLibrary
pub mod Generated
pub mod Refusals
pub mod steps
