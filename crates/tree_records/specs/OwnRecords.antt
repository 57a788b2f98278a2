-- The record of a cell's own paint.
use Rattle.std.specs.Prelude.{◌≡◌, ℕ, List, [], map}
use Rattle.cell_nodes.specs.TechModel.declared.raw.Label.{Label}
use Rattle.cell_nodes.specs.TechModel.declared.raw.RawTech.{RawTech}
use Rattle.cell_nodes.specs.ExtModel.declared.records.CellExt.{CellExt}
use Rattle.cell_nodes.specs.LayoutModel.Layouts.{Layout}
use Rattle.cell_nodes.specs.NodeRecords.{AreNodeRecords}
use Rattle.tree_records.specs.FetRecords.{AreFetRecords, IsNodeBefore}

-- the values of the technology's classes
abbrev pub class_values : RawTech → List ℕ
class_values raw = map (λ class. class.value) raw.classes

-- The record of the cell of this name whose own paint is the layout, with these labels and without uses: the nodes of the paint by their
-- least places, and its transistors by theirs, with terminals by the least places of their nodes.
pub record IsOwnRecord (raw : RawTech) (layout : Layout) (labels : List Label) (name : List ℕ) (ext : CellExt) : Type 0 where
  pub cell : ext.cell ≡ name
  pub tech : ext.tech ≡ raw.name
  pub classes : ext.classes ≡ class_values raw
  pub uses : ext.uses ≡ []
  pub nodes : AreNodeRecords raw layout labels ext.nodes
  pub fets : AreFetRecords raw layout labels (IsNodeBefore raw layout labels) ext.fets
  pub merges : ext.merges ≡ []
