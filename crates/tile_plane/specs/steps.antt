pub mod Bands
pub mod Cuts
pub mod Mends
pub mod Sides
