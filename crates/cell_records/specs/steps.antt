pub mod Exts
pub mod FetsOfRegions
pub mod Joined
