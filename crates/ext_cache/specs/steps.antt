pub mod MadeRecords
pub mod Undoing
