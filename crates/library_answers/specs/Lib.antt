-- what crates above name of those below
pub use Rattle.undo_log.specs.EditScript as EditScript
pub use Rattle.undo_log.specs as UndoLog
pub use Rattle.cell_loading.specs.MagText as MagText
pub use Rattle.cell_loading.specs as CellLoading
pub use Rattle.hier_merge.specs as HierMerge
pub mod Refusals
pub mod Replies
pub mod Offending
