-- what crates above name of those below
pub use Rattle.rect_contacts.proofs as RectContacts
mod Common
pub mod Walks
pub mod ShareLaws
pub mod TileEdges
pub mod EdgeTotals
pub mod GatherLaws
mod RunLaws
pub mod OpenEdges
pub mod LayoutRegions
pub mod StackLaws
pub mod LinkLaws
pub mod Renumbering
