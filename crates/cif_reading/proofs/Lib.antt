mod Common
mod NumberLaws
pub mod PlaceLaws
pub mod LawfulDrafts
pub mod RefusedTexts
