-- what crates above name of those below
pub use Rattle.layout_model.specs as LayoutModel
pub mod Faults
pub mod Painting
pub mod Paints
pub mod Pieces
pub mod steps
