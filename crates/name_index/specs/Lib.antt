-- what crates above name of those below
pub use Rattle.finite_sets.specs as FiniteSets
