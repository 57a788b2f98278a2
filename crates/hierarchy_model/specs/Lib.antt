-- what crates above name of those below
pub use Rattle.tech_model.specs as TechModel
pub use Rattle.offences.specs.LayoutModel as LayoutModel
pub use Rattle.offences.specs as Offences
pub mod CleanCells
pub mod Laws
pub mod Restrictions
