-- what crates above name of those below
pub use Rattle.geo_core.specs.FiniteSets as FiniteSets
pub use Rattle.geo_core.specs as GeoCore
pub mod ChannelRoles
pub mod ColumnForms
pub mod Columns
pub mod Forms
pub mod Indexes
pub mod Laws
pub mod LayerTiles
pub mod LayerWords
pub mod PairTables
pub mod Rules
pub mod Types
pub mod WellFormed
