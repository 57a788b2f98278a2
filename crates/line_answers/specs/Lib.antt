pub mod LineEffects
pub mod Refusals
pub mod Texts
