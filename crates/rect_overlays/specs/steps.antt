pub mod Cuts
pub mod Regions
pub mod Singles
pub mod Splits
