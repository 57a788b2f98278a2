pub mod Changes
pub mod Listings
