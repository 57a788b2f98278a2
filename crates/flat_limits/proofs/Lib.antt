-- what crates above name of those below
pub use Rattle.element_tree.proofs as ElementTree
pub mod TreeLaws
