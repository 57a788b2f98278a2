-- what crates above name of those below
pub use Rattle.library_answers.specs.UndoLog as UndoLog
pub mod CommandNodes
pub mod CommandSave
pub mod CommandSquares
pub mod Looks
