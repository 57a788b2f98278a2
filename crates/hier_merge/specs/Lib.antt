-- what crates above name of those below
pub use Rattle.meeting_laws.specs.Names as Names
pub use Rattle.cell_library.specs.CellTree as CellTree
pub use Rattle.cell_library.specs as CellLibrary
pub use Rattle.meeting_laws.specs.Offences as Offences
pub mod Interactions
pub mod StripLists
pub mod UncleanCells
pub mod MeetingPieces
pub mod steps
