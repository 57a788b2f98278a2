pub mod CircuitFiles
pub mod CellCifs
pub mod WrittenTexts
pub mod CellMeanings
