-- what crates above name of those below
pub use Rattle.library_answers.specs.UndoLog as UndoLog
pub use Rattle.network_runs.specs as NetworkRuns
pub use Rattle.library_answers.specs as LibraryAnswers
-- what a command of the session says of the records that are kept
pub use Rattle.ext_cache.specs.Caches
-- the lines that tell which squares offend
pub use Rattle.library_answers.specs.Offending
-- what the transistors of a circuit are given to
pub use Rattle.flatten.specs.Sinks
pub mod CellCircuits
pub mod Extracting
pub mod Extractions
pub mod KeptSessions
pub mod ReadBack
pub mod States
