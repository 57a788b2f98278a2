-- what crates above name of those below
pub use Rattle.plain_records.proofs as PlainRecords
mod Common
mod Positions
mod ReadingLaws
mod CycleLaws
mod LoadLaws
pub mod FileLaws
