-- what crates above name of those below
pub use Rattle.cell_tree.specs as CellTree
pub use Rattle.library_trees.specs.CellLibrary as CellLibrary
pub use Rattle.library_trees.specs as LibraryTrees
pub mod ElementPaths
pub mod UseStarts
