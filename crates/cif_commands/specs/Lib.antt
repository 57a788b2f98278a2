pub mod CommandCif
pub mod CommandCifstat
pub mod OneEffects
pub mod Refusals
pub mod steps
