pub mod CommandDrc
pub mod OneEffect
pub mod Refusals
