-- what crates above name of those below
pub use Rattle.sim_records.specs as SimRecords
pub use Rattle.tree_records.specs as TreeRecords
pub mod CircuitLaws
pub mod NetworkLaws
