-- what crates above name of those below
pub use Rattle.flood_nodes.specs as FloodNodes
pub mod Bounds
pub mod steps
