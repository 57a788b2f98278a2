-- what crates above name of those below
pub use Rattle.finite_sets.specs as FiniteSets
pub mod Marks
pub mod Divides
pub mod Leaders
pub mod Parents
pub mod Laws
