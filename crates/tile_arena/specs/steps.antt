pub mod Lending
pub mod PlaceLending
