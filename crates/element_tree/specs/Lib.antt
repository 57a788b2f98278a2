pub mod Graphs
pub mod Trees
pub mod Sizes
pub mod steps
