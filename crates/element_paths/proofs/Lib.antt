-- what crates above name of those below
pub use Rattle.library_trees.proofs.CellLibrary as CellLibrary
pub use Rattle.library_trees.proofs as LibraryTrees
mod Common
pub mod RecordLaws
mod ElementLaws
mod UseLaws
mod StartLaws
mod DescentLaws
