-- what crates above name of those below
pub use Rattle.ext_model.specs.FiniteSets as FiniteSets
pub use Rattle.ext_model.specs as ExtModel
pub use Rattle.ext_model.specs.GeoCore as GeoCore
pub mod Elements
pub mod FullNames
pub mod FlatNodes
pub mod FlatFets
pub mod Circuits
pub mod Refusals
