-- what crates above name of those below
pub use Rattle.offences.proofs as Offences
pub use Rattle.tech_model.proofs as TechModel
pub use Rattle.offences.proofs.LayoutModel as LayoutModel
mod Common
pub mod KindLaws
pub mod PartSearch
pub mod CleanLaws
pub mod MeetingLaws
pub mod RoleLaws
