pub mod Groups
pub mod Links
pub mod Members
