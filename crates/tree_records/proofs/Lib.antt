-- what crates above name of those below
pub use Rattle.cell_nodes.proofs.RectContacts as RectContacts
pub use Rattle.cell_nodes.proofs.TechModel as TechModel
pub use Rattle.cell_nodes.proofs as CellNodes
pub use Rattle.cell_nodes.proofs.FloodNodes as FloodNodes
pub use Rattle.cell_nodes.proofs.LayoutModel as LayoutModel
pub use Rattle.cell_nodes.proofs.Measures as Measures
pub use Rattle.cell_nodes.proofs.Names as Names
pub mod MoveLaws
