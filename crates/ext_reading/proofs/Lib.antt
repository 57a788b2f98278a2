mod Common
mod LineSteps
pub mod NameLaws
mod PathLaws
pub mod Outcomes
mod UseNames
mod ElementIds
mod LawfulLines
mod LawfulDrafts
mod RowPaths
mod SoundRecords
mod SoundNodes
mod SoundDrafts
mod OutlineLaws
mod LawfulTexts
mod WrittenWords
mod WrittenNames
mod WrittenLines
mod WrittenBack
mod WrittenPaths
mod WrittenSteps
mod WrittenParts
mod WrittenOutlines
mod WrittenRecords
mod WrittenHeaders
