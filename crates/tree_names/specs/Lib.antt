-- what crates above name of those below
pub use Rattle.own_record_laws.specs as OwnRecordLaws
pub use Rattle.own_record_laws.specs.CellPaint as CellPaint
pub use Rattle.name_classes.specs.ExtModel as ExtModel
pub use Rattle.hierarchy_model.specs.TechModel as TechModel
pub use Rattle.own_record_laws.specs.LayoutModel as LayoutModel
pub use Rattle.hierarchy_model.specs.Offences as Offences
pub use Rattle.own_record_laws.specs.CellNodes as CellNodes
pub use Rattle.name_classes.specs.CircuitModel as CircuitModel
pub use Rattle.hierarchy_model.specs as HierarchyModel
pub use Rattle.own_record_laws.specs.Measures as Measures
pub use Rattle.own_record_laws.specs.TreeRecords as TreeRecords
pub use Rattle.own_record_laws.specs.Names as Names
pub mod CircuitNodes
pub mod CleanTrees
pub mod PartLinks
pub mod PathLinks
pub mod TreeElements
pub mod Laws
