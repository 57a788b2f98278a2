pub mod MeetingTiles
pub mod PlanePieces
pub mod Seams
pub mod Visits
