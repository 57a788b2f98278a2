-- what crates above name of those below
pub use Rattle.flood_nodes.proofs.RectContacts as RectContacts
pub use Rattle.flood_nodes.proofs as FloodNodes
mod Common
mod RectSizes
pub mod AmountLaws
pub mod MeasureLaws
pub mod BoundLaws
