-- what crates above name of those below
pub use Rattle.text_scan.proofs as TextScan
pub use Rattle.geo_core.proofs.FiniteSets as FiniteSets
pub use Rattle.geo_core.proofs as GeoCore
mod Common
pub mod NameKinds
pub mod NameOrders
pub mod PathOrders
mod EntryLaws
pub mod PathNames
pub mod PartOrders
pub mod RecordNameLaws
pub mod TextCuts
pub mod CutLaws
pub mod IndexedNames
pub mod ElementForms
pub mod NearSteps
pub mod PlainUses
