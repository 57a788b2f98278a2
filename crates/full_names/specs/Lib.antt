-- what crates above name of those below
pub use Rattle.ext_model.specs.TextScan as TextScan
pub use Rattle.ext_model.specs.FiniteSets as FiniteSets
pub use Rattle.ext_model.specs.GeoCore as GeoCore
pub use Rattle.ext_model.specs as ExtModel
pub use Rattle.element_tree.specs as ElementTree
pub use Rattle.circuit_model.specs as CircuitModel
pub mod OwnNames
pub mod Reached
pub mod Globals
pub mod GlobalOrigins
pub mod Places
pub mod Orders
pub mod NameLists
pub mod Names
pub mod steps
