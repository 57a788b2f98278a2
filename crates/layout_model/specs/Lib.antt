-- what crates above name of those below
pub use Rattle.geo_core.specs as GeoCore
pub use Rattle.tech_model.specs as TechModel
pub mod CellTrees
pub mod FlatSets
pub mod EdgeCounts
pub mod Laws
pub mod LayerTypes
pub mod Layouts
pub mod Links
pub mod Measures
pub mod Nodes
pub mod Places
pub mod RegionTiles
pub mod Technologies
pub mod Transistors
