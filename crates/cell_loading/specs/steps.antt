pub mod ReadCells
pub mod Walks
