pub mod CallPlans
pub mod Counts
pub mod Files
pub mod Refusals
pub mod ToldBytes
