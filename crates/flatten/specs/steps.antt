pub mod Amounts
pub mod Filled
pub mod Labels
pub mod Named
pub mod Sides
pub mod Spots
pub mod Stages
pub mod Sums
