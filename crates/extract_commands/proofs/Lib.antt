-- what crates above name of those below
pub use Rattle.uniqueness.proofs.NetworkCommands as NetworkCommands
pub use Rattle.uniqueness.proofs.CircuitCommands as CircuitCommands
mod CellRunLaws
mod CircuitLaws
mod Common
mod ExtractionCommands
mod GenerateLaws
pub mod RestLaws
mod SoundLibraries
mod OneExtraction
mod ReachedRecords
mod OneCircuit
mod OnCells
mod CircuitEffects
mod RunEffects
mod StackEffects
mod StackVersions
