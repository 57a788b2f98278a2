pub mod RowEvents
pub mod Sweeping
