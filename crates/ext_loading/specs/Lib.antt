-- what crates above name of those below
pub use Rattle.plain_records.specs as PlainRecords
pub mod ExtFiles
pub mod Loads
pub mod Readings
pub mod steps
