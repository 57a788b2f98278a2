pub mod Outlines
pub mod Places
pub mod Reading
pub mod Sections
pub mod Texts
