pub mod GivenNames
pub mod NameParts
pub mod Squares
pub mod Forests
pub mod Holds
