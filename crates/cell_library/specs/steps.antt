pub mod AddedCells
pub mod CellEdits
pub mod MaterialBelow
pub mod OwnRestorations
pub mod Spans
pub mod UsePlaces
pub mod VisitedTiles
pub mod Visits
