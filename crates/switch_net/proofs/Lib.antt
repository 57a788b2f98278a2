-- what crates above name of those below
pub use Rattle.finite_sets.proofs as FiniteSets
mod Common
pub mod Paths
pub mod Ranges
pub mod Unique
pub mod Forcing
pub mod Phases
pub mod Locality
pub mod Sound
pub mod Vicinities
pub mod Counting
pub mod Lent
pub mod Listing
