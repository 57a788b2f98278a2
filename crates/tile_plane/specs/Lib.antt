pub mod Slots
pub mod Tiles
pub mod Walks
pub mod Tall
pub mod Contents
pub mod Listings
pub mod Sheets
pub mod steps
