-- what crates above name of those below
pub use Rattle.vector_runs.specs as VectorRuns
pub mod Changes
pub mod Replays
pub mod Runs
