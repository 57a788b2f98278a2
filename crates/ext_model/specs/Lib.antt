-- what crates above name of those below
pub use Rattle.geo_core.specs.FiniteSets as FiniteSets
pub use Rattle.geo_core.specs as GeoCore
pub use Rattle.text_scan.specs as TextScan
pub mod NodeNames
pub mod NameOrder
pub mod Paths
pub mod NameParts
pub mod NameLaws
pub mod ElementNames
pub mod RecordNames
pub mod Lawful
pub mod Plain
pub mod LawfulArrays
pub mod Rows
pub mod Tables
pub mod RecordLaws
