-- what crates above name of those below
pub use Rattle.finite_sets.proofs as FiniteSets
pub mod Keys
pub mod Positions
