pub mod Bytes
pub mod Comments
pub mod Cutting
pub mod Words
pub mod Commands
pub mod Written
