-- what crates above name of those below
pub use Rattle.tree_names.specs.LayoutModel as LayoutModel
pub use Rattle.tree_names.specs.HierarchyModel as HierarchyModel
pub use Rattle.tree_names.specs.OwnRecordLaws as OwnRecordLaws
pub use Rattle.tree_names.specs as TreeNames
pub use Rattle.tree_names.specs.TreeRecords as TreeRecords
pub mod Channels
pub mod Terminals
pub mod FetLaws
pub mod SumLaws
pub mod TreeSums
pub mod Laws
