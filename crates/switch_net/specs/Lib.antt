-- what crates above name of those below
pub use Rattle.finite_sets.specs as FiniteSets
pub mod Network
pub mod Names
pub mod Terminals
pub mod Sorted
pub mod Sets
pub mod Arrays
pub mod Net
pub mod Path
pub mod Steady
pub mod Phase
pub mod Vicinity
pub mod Laws
pub mod SimRecords
