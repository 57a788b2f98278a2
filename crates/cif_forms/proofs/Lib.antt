mod CommentLaws
mod Common
mod FormLaws
mod NumberLaws
mod CuttingLaws
mod TextLaws
mod WordLaws
pub mod WrittenTexts
mod WrittenWords
pub mod WrittenLaws
