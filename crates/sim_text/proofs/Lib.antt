mod Common
pub mod WrittenLines
pub mod WrittenBack
pub mod AppendedText
pub mod SpelledTexts
mod RefusedTexts
