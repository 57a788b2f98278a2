-- what crates above name of those below
pub use Rattle.finite_sets.proofs as FiniteSets
mod Ancestors
mod Numbering
mod Division
mod Uniqueness
