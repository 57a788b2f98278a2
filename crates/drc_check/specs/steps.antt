pub mod Bands
pub mod CellPieces
pub mod Checks
pub mod Listed
pub mod Pieces
