-- what crates above name of those below
pub use Rattle.cif_commands.proofs as CifCommands
-- laws of the sessions that are kept
pub use Rattle.workspace.proofs.SessionLaws
mod ChangedCells
mod Common
mod EditLaws
mod LoadLaws
mod MarkLaws
mod TechLaws
pub mod RestLaws
pub mod OneChecks
mod OneCif
mod OneEffects
mod OneLook
mod OneMarks
mod ReturnLaws
mod VersionLaws
