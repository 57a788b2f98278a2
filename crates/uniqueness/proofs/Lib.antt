-- what crates above name of those below
pub use Rattle.network_commands.proofs as NetworkCommands
pub use Rattle.cell_loading.proofs as CellLoading
pub use Rattle.edit_script.proofs as EditScript
pub use Rattle.library_trees.proofs as LibraryTrees
pub use Rattle.circuit_commands.proofs as CircuitCommands
mod Common
mod SameTexts
pub mod SameNodes
mod SameTransistors
mod SameFets
mod SameOwnRecords
mod SameTotals
mod SameGroups
mod SameMerges
mod SameTreeRecords
pub mod OneRecord
mod OneFault
mod LibraryFaults
pub mod CommandFaults
mod CommandOutcomes
mod OneHull
pub mod OneText
mod OneUncleanCell
pub mod CleanBelow
pub mod LawfulUses
mod OneLibrary
pub mod OneLoad
mod ReachedElements
mod ReachedFaults
mod FlatCircuits
mod CircuitTrees
mod WrittenCircuits
mod Ext2simEffects
mod SameNetworks
mod CountedNodes
mod AlikeNames
mod SameReplies
mod SameGrades
mod SimLimits
mod VectorAnswers
mod StackOutcomes
mod CircuitAnswers
mod SimrunEffects
