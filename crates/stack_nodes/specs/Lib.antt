pub mod StackNodes
pub mod StackSums
