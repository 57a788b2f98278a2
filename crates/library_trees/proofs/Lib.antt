-- what crates above name of those below
pub use Rattle.cell_library.proofs as CellLibrary
pub use Rattle.tree_names.proofs.CellNodes as CellNodes
pub use Rattle.tree_names.proofs.Measures as Measures
pub use Rattle.tree_names.proofs.NameClasses as NameClasses
pub use Rattle.tree_names.proofs.OwnRecordLaws as OwnRecordLaws
pub use Rattle.tree_names.proofs as TreeNames
mod Common
mod NamedRecords
mod RecordedTrees
pub mod LayoutLaws
pub mod WholeTrees
mod ElementNameLaws
mod TreeNameLaws
mod TreeDepths
pub mod AgreeingViews
pub mod EditedTrees
pub mod StampedTrees
pub mod CleanTrees
pub mod LabelLaws
