-- what crates above name of those below
pub use Rattle.undo_log.proofs as UndoLog
pub use Rattle.undo_log.proofs.EditScript as EditScript
pub use Rattle.hier_merge.proofs as HierMerge
pub mod OffendingLaws
pub mod UncleanLaws
