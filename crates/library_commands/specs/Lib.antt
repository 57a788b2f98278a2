-- what crates above name of those below
pub use Rattle.cif_commands.specs as CifCommands
pub use Rattle.look_commands.specs as LookCommands
pub use Rattle.workspace.specs as Workspace
pub mod CommandChecks
pub mod CommandCif
pub mod CommandEdits
pub mod CommandLoad
pub mod CommandLooks
pub mod CommandReturns
pub mod CommandTech
pub mod OneEffects
