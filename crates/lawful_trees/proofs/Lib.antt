-- what crates above name of those below
pub use Rattle.library_trees.proofs as LibraryTrees
mod Common
mod ElementForms
mod ElementPlaces
mod LibraryElements
mod LibraryUses
mod OwnParts
mod NearPlaces
mod TreePaths
mod SmallWeights
mod FewPlaces
mod MemberSums
mod LawfulMerges
mod LawfulTrees
