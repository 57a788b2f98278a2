pub mod NodeNumbers
pub mod Records
