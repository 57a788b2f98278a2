-- what crates above name of those below
pub use Rattle.rect_contacts.specs as RectContacts
pub mod Renumbered
pub mod SoundTiles
pub mod Stacking
pub mod TileShares
pub mod steps
