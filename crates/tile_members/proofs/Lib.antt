-- what crates above name of those below
pub use Rattle.element_paths.proofs as ElementPaths
pub use Rattle.group_meetings.proofs as GroupMeetings
mod Common
mod StandingTypes
mod WholeTiles
mod MergeFinds
mod GroupFirsts
mod RecordedGroups
mod ListPlaces
mod NewNames
mod StandingCells
mod TileCorners
mod NodesFound
mod OpenedLaws
mod ChildCells
mod Climbs
mod GroupPaths
mod KnownLaws
mod FoundTiles
mod FinderLaws
