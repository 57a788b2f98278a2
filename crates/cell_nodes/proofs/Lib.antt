-- what crates above name of those below
pub use Rattle.measures.proofs.RectContacts as RectContacts
pub use Rattle.tech_model.proofs as TechModel
pub use Rattle.measures.proofs.FloodNodes as FloodNodes
pub use Rattle.layout_model.proofs as LayoutModel
pub use Rattle.measures.proofs as Measures
pub use Rattle.names.proofs as Names
mod Common
mod NumberLaws
pub mod CapacitanceLaws
mod GroupLaws
pub mod NodePlaces
pub mod PaintLaws
mod RegionLaws
mod RecordLaws
