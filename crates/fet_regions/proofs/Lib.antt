-- what crates above name of those below
pub use Rattle.flood_nodes.proofs as FloodNodes
mod AlikeTiles
mod ChannelLaws
mod Common
mod ContactLaws
mod FetLaws
mod LengthLaws
mod LowestLaws
mod MapLaws
pub mod RoleLaws
mod SizeLaws
