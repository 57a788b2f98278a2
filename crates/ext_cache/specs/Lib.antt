-- what crates above name of those below
pub use Rattle.tree_merges.specs.CellTree as CellTree
pub use Rattle.tree_merges.specs.CellLibrary as CellLibrary
pub use Rattle.lawful_trees.specs.LibraryTrees as LibraryTrees
pub use Rattle.tree_merges.specs.Names as Names
pub mod Caches
pub mod Refusals
pub mod Lending
pub mod Laws
pub mod steps
