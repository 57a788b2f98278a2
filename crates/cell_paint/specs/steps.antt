pub mod Changes
pub mod Settings
