-- what crates above name of those below
pub use Rattle.tree_records.proofs.RectContacts as RectContacts
pub use Rattle.tree_records.proofs.LayoutModel as LayoutModel
pub use Rattle.tree_records.proofs as TreeRecords
pub use Rattle.tree_records.proofs.CellNodes as CellNodes
pub use Rattle.tree_records.proofs.FloodNodes as FloodNodes
pub use Rattle.tree_records.proofs.Measures as Measures
pub use Rattle.tree_records.proofs.Names as Names
mod Common
mod OneElement
mod NoOtherFaults
mod Parts
mod FlatNames
mod SameNodes
pub mod PreferredNames
mod SameTerminals
pub mod SameFets
pub mod SomeEdges
mod OwnMeanings
pub mod NameForms
pub mod NodeSizes
pub mod NodesByName
pub mod FetSizes
pub mod NamesDiffer
pub mod LawfulFets
mod OwnLawful
