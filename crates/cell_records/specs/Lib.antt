-- what crates above name of those below
pub use Rattle.own_record_laws.specs.CellNodes as CellNodes
pub use Rattle.own_record_laws.specs.TreeRecords as TreeRecords
pub mod steps
