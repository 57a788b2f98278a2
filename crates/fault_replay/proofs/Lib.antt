-- what crates above name of those below
pub use Rattle.vector_runs.proofs as VectorRuns
mod ChangedStates
mod Beside
mod Common
mod PhaseEnds
mod Lines
pub mod Recorded
