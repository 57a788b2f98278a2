-- what crates above name of those below
pub use Rattle.tree_names.proofs.ElementTree as ElementTree
pub use Rattle.tree_names.proofs.FullNames as FullNames
pub use Rattle.tree_names.proofs.NameClasses as NameClasses
pub use Rattle.tree_names.proofs.OwnRecordLaws as OwnRecordLaws
pub use Rattle.tree_names.proofs as TreeNames
mod Common
mod StandingTypes
mod OwnedChannels
mod MovedSets
mod SameRoles
mod SameChannels
mod LeastPlaces
mod ChannelSets
mod NodesOfChannels
mod RenamedTerminals
mod FlatTransistors
mod FetElements
mod FlatRecords
mod Zipped
mod OwnedFets
mod AllFets
mod StandingPaths
mod FoundNames
mod RecordFets
mod NamedSums
mod RecordedQuantities
pub mod MaterialPlaces
mod Shares
mod OwnMembers
mod GroupShares
mod AllGroups
pub mod BelowSums
mod CellSums
mod ClosedSums
mod ElementSums
mod GroupTests
mod FlatTotals
mod FlatMeasures
mod FlatNodes
mod TreeCircuits
mod WalkFaults
mod MergePaths
mod RecordCounts
mod MergeCounts
mod NoOtherFaults
