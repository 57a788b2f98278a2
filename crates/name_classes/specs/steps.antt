pub mod Joins
pub mod Links
pub mod Paths
pub mod UseTables
