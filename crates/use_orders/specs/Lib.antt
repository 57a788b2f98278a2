pub mod Uses
pub mod LibraryOrder
pub mod NewCells
pub mod steps
