-- what crates above name of those below
pub use Rattle.partition.specs.FiniteSets as FiniteSets
pub use Rattle.ext_model.specs.GeoCore as GeoCore
pub use Rattle.ext_model.specs as ExtModel
pub use Rattle.circuit_model.specs as CircuitModel
pub use Rattle.full_names.specs as FullNames
pub mod Classes
pub mod steps
