pub mod Violations
pub mod steps
