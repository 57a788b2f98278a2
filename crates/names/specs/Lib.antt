pub mod Attachments
pub mod GeneratedNames
pub mod Labels
pub mod NamedNodes
pub mod steps
