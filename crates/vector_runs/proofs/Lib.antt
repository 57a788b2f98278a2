-- what crates above name of those below
pub use Rattle.vector_files.proofs as VectorFiles
mod Common
pub mod LineOutcomes
pub mod Starts
pub mod SplitRuns
mod NameSearch
pub mod RailStates
mod RunningLines
mod RestingRuns
pub mod WatchedRuns
