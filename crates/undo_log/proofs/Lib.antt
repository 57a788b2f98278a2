-- what crates above name of those below
pub use Rattle.edit_script.proofs as EditScript
mod BodyLaws
pub mod CameLaws
mod CellLaws
mod ChangeLaws
mod Common
mod DesignerLaws
mod EditLaws
mod LawfulLaws
pub mod LeadLaws
mod MakeLaws
mod MoreCells
mod OtherCommands
mod UseMoves
