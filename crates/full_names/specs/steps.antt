pub mod ByteCounts
pub mod Keys
pub mod Paths
