pub mod Limits
pub mod Reach
pub mod Expansions
pub mod steps
