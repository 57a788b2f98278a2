pub mod RunWords
pub mod steps
