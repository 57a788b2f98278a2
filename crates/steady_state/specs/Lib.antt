pub mod Marked
pub mod Levels
pub mod steps
