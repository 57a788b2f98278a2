-- what crates above name of those below
pub use Rattle.tree_merges.proofs.CellLibrary as CellLibrary
pub use Rattle.lawful_trees.proofs.LibraryTrees as LibraryTrees
mod AboveLaws
mod AgreementLaws
pub mod ArrivalLaws
mod CleanLaws
mod Common
pub mod EditLaws
mod LendingLaws
mod LoopLaws
mod MadeLaws
pub mod MakingLaws
pub mod OrderLaws
pub mod RecordLaws
mod SerialLaws
mod UncleanLaws
mod UndoingLaws
mod WorkLaws
