-- what crates above name of those below
pub use Rattle.script_lines.specs as ScriptLines
pub use Rattle.cell_library.specs as CellLibrary
pub mod Answers
pub mod Editing
pub mod Edits
pub mod Refusals
pub mod Stamps
