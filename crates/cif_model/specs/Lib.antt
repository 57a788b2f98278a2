pub mod Cifs
pub mod Meanings
pub mod Sizes
pub mod Placings
