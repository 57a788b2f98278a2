pub mod LayerParts
pub mod Pieces
