-- what crates above name of those below
pub use Rattle.library_trees.specs as LibraryTrees
pub mod Laws
