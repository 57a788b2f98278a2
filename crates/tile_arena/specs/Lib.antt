pub mod Arenas
pub mod ArenaLending
pub mod BlockLists
pub mod Slots
pub mod Places
pub mod PlaceOwnership
pub mod Blocks
pub mod steps
