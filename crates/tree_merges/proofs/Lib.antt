-- what crates above name of those below
pub use Rattle.hier_merge.proofs.CellTree as CellTree
pub use Rattle.hier_merge.proofs.CellLibrary as CellLibrary
pub use Rattle.tile_members.proofs.ElementPaths as ElementPaths
pub use Rattle.hier_merge.proofs as HierMerge
pub mod CellMerges
mod Common
mod FlatTypes
mod JoinLaws
mod NumberedMembers
mod PairLaws
mod PieceMarks
mod PieceTiles
mod RegionCounts
