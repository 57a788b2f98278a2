pub mod Decimal
pub mod Lines
pub mod Numbers
pub mod PlainNames
pub mod Words
pub mod Written
