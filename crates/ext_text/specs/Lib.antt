pub mod NodeLines
pub mod WrittenTexts
pub mod steps
