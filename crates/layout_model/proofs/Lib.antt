pub mod SetUnions
pub mod Families
pub mod NodeLaws
pub mod PlaceLaws
