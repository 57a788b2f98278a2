-- what crates above name of those below
pub use Rattle.cell_library.proofs.CellTree as CellTree
pub use Rattle.cell_library.proofs as CellLibrary
pub mod CleanOrders
mod Common
mod CoveringTileLaws
mod FoundPieces
mod JoinedPieces
mod MeetingBoxes
pub mod MeetingOffences
mod MeetingPieceLaws
mod MeetingSquares
mod NearAreas
mod NumberedParts
mod NumberedTiles
mod PartBoxLaws
mod PartTypes
mod PlanePieceLaws
mod PlaneStrips
mod PlaneTiles
mod SeamLaws
mod VisitLaws
mod WorkLaws
