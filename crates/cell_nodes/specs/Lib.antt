-- what crates above name of those below
pub use Rattle.measures.specs.FloodNodes as FloodNodes
pub use Rattle.cell_paint.specs as CellPaint
pub use Rattle.ext_model.specs as ExtModel
pub use Rattle.tech_model.specs.FiniteSets as FiniteSets
pub use Rattle.layout_model.specs as LayoutModel
pub use Rattle.measures.specs as Measures
pub use Rattle.names.specs as Names
pub use Rattle.tech_model.specs as TechModel
pub mod NodeRecords
pub mod RegionNodes
pub mod steps
