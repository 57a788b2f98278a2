-- what crates above name of those below
pub use Rattle.element_paths.specs as ElementPaths
pub use Rattle.element_paths.specs.LibraryTrees as LibraryTrees
pub use Rattle.group_meetings.specs as GroupMeetings
pub mod TileLaws
pub mod MergedMembers
pub mod GroupLaws
pub mod TileMembers
pub mod steps
