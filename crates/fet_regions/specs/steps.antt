pub mod Channels
pub mod Lowest
pub mod Roles
pub mod Sizes
