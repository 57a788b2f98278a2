pub mod Outcomes
pub mod StackVectors
pub mod Summaries
