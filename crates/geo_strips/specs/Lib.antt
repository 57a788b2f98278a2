pub mod Bars
pub mod Coverage
pub mod RowRuns
pub mod steps
