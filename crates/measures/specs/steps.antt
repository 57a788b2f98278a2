pub mod Columns
pub mod Sizes
