pub mod Blocks
pub mod CountedLabels
pub mod FirstTiles
pub mod Groups
pub mod TakenLabels
