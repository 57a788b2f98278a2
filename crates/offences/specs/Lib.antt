-- what crates above name of those below
pub use Rattle.geo_core.specs.FiniteSets as FiniteSets
pub use Rattle.geo_core.specs as GeoCore
pub use Rattle.layout_model.specs as LayoutModel
pub use Rattle.tech_model.specs as TechModel
pub mod Offences
pub mod Roles
pub mod SetTiles
pub mod PartSets
pub mod Changes
pub mod TypedStacks
pub mod PlaneStacks
pub mod steps
