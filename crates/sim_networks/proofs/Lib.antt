mod Common
mod GatherLaws
mod NumberLaws
pub mod NodeLaws
pub mod CountLaws
mod SwitchLaws
mod InputLaws
mod LetterLaws
pub mod NumberedNames
