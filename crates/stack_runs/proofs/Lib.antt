mod Growing
mod NamedAlike
mod OnePhase
