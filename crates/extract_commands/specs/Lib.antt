-- what crates above name of those below
pub use Rattle.uniqueness.specs.NetworkCommands as NetworkCommands
pub use Rattle.uniqueness.specs.CircuitCommands as CircuitCommands
pub use Rattle.uniqueness.specs as Uniqueness
pub use Rattle.workspace.specs as Workspace
pub mod CellRuns
pub mod CommandCircuits
pub mod CommandExtract
pub mod CommandGenerate
pub mod CommandVectors
pub mod OneCircuits
pub mod OneEffects
pub mod OneExtractions
pub mod steps
