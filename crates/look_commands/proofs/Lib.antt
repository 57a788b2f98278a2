-- what crates above name of those below
pub use Rattle.library_answers.proofs.UndoLog as UndoLog
mod NodesLaws
mod SquaresLaws
