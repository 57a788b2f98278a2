-- what crates above name of those below
pub use Rattle.library_answers.proofs.UndoLog as UndoLog
pub use Rattle.library_answers.proofs as LibraryAnswers
-- laws of the records that are kept
pub use Rattle.ext_cache.proofs.ArrivalLaws
pub use Rattle.ext_cache.proofs.EditLaws
pub use Rattle.ext_cache.proofs.RecordLaws
mod CellCircuitLaws
pub mod CellCommands
mod CellNames
mod Common
pub mod ExtractionInside
pub mod ExtractionLaws
mod KeptLaws
pub mod SessionLaws
mod StandingLaws
pub mod VersionLaws
pub mod WorkspaceLaws
mod ReadableRecords
