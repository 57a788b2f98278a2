pub mod Refusals
pub mod Runs
pub mod Sessions
pub mod Statuses
