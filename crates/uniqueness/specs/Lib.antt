-- what crates above name of those below
pub use Rattle.network_commands.specs as NetworkCommands
pub use Rattle.edit_script.specs as EditScript
pub use Rattle.cell_loading.specs as CellLoading
pub use Rattle.library_trees.specs as LibraryTrees
pub use Rattle.circuit_commands.specs as CircuitCommands
pub mod OwnUniqueness
pub mod RecordUniqueness
pub mod LibraryRecords
pub mod Refusals
pub mod Hulls
pub mod UncleanCells
pub mod Loads
pub mod FlatCircuits
pub mod CircuitTrees
pub mod Ext2simEffects
pub mod Networks
pub mod VectorRuns
pub mod Simulations
