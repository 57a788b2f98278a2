-- what crates above name of those below
pub use Rattle.cell_bodies.specs as CellBodies
pub mod Arguments
pub mod Commands
pub mod Forms
pub mod Verbs
pub mod steps
