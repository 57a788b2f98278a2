-- what crates above name of those below
pub use Rattle.cell_bodies.proofs.LayoutModel as LayoutModel
pub use Rattle.cell_bodies.proofs.CellPaint as CellPaint
pub use Rattle.cell_bodies.proofs as CellBodies
pub use Rattle.cell_tree.proofs as CellTree
pub mod AddedCells
mod ArrivingCells
pub mod ArrivingUses
pub mod BoxLaws
pub mod BoxSteps
pub mod BoxesBelow
pub mod ChildLaws
mod Common
pub mod ContentLaws
mod EditLaws
pub mod ElementCounts
pub mod FaultLaws
pub mod GridSpots
pub mod GridSteps
mod HeldParts
pub mod HullsHoldMaterial
mod InnerAreas
mod KeptContents
pub mod LawfulViews
pub mod LayoutTreeLaws
pub mod LimitLaws
mod MaterialLaws
mod MoveEdits
pub mod NewCells
pub mod OwnEdits
pub mod OwnRestorations
mod OwnTiles
pub mod PaintEdits
pub mod PartLaws
mod PartSets
pub mod PlacedCells
pub mod PlacedRects
mod PutBackUses
pub mod RowSpots
mod SeenAreas
pub mod SizeLaws
mod SpotLaws
pub mod StandingCounts
pub mod ToldTiles
pub mod TreeTypes
pub mod UndoneEdits
pub mod UseEdits
pub mod UseLists
mod UseSearches
mod UseSteps
mod UseSums
mod UseTreeLaws
pub mod ViewLaws
pub mod VisitLaws
