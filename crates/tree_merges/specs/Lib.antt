-- what crates above name of those below
pub use Rattle.hier_merge.specs.CellTree as CellTree
pub use Rattle.layout_model.specs as LayoutModel
pub use Rattle.hier_merge.specs.Names as Names
pub use Rattle.hier_merge.specs.CellLibrary as CellLibrary
pub use Rattle.tile_members.specs.ElementPaths as ElementPaths
pub use Rattle.hier_merge.specs as HierMerge
pub use Rattle.piece_groups.specs.MeetingSums.TreeRecords as TreeRecords
pub mod Relations
pub mod steps
