-- what crates above name of those below
pub use Rattle.flood_nodes.specs as FloodNodes
pub use Rattle.measures.specs as Measures
pub mod Lengths
pub mod Transistors
pub mod steps
