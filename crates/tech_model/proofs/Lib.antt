-- what crates above name of those below
pub use Rattle.geo_core.proofs.FiniteSets as FiniteSets
pub use Rattle.geo_core.proofs as GeoCore
mod Common
mod LayerWordLaws
mod PairTableLaws
pub mod WellFormedLaws
mod PairSearch
pub mod TypeLaws
pub mod RuleLaws
pub mod SetLaws
pub mod JoinedLaws
pub mod WithinLaws
pub mod MarkLaws
pub mod ColumnLaws
pub mod WholeLaws
pub mod LocalLaws
