-- The circuit that a layout with labels is, which is that of a cell without uses.
use Rattle.std.specs.Prelude.{◌≡◌, ℕ, List, AllPairs}
use Rattle.cell_nodes.specs.FiniteSets.Lists.{In}
use Rattle.cell_nodes.specs.TechModel.declared.raw.Label.{Label}
use Rattle.cell_nodes.specs.TechModel.declared.raw.RawTech.{RawTech}
use Rattle.cell_nodes.specs.ExtModel.declared.circuits.Circuit.{Circuit}
use Rattle.cell_nodes.specs.ExtModel.declared.records.NodeRec.{NodeRec}
use Rattle.cell_nodes.specs.LayoutModel.Places.{Place}
use Rattle.cell_nodes.specs.LayoutModel.Layouts.{Layout, IsMaterial}
use Rattle.cell_nodes.specs.Names.NamedNodes.{AreOneNamedNode}
use Rattle.cell_nodes.specs.NodeRecords.{IsNodeRecord}
use Rattle.tree_records.specs.FetRecords.{AreFetRecords, IsNameBefore}
use Rattle.tree_records.specs.OwnRecords.{class_values}

-- The record is that of a node of the layout.
pub record IsNodeOf (raw : RawTech) (layout : Layout) (labels : List Label) (node : NodeRec) : Type 0 where
  pub least : Place
  pub is : IsNodeRecord raw layout labels least node

-- The place is of the node that one of these records is of.
pub record IsInSome (raw : RawTech) (layout : Layout) (labels : List Label) (nodes : List NodeRec) (place : Place) : Type 0 where
  pub node : NodeRec
  pub listed : In node nodes
  pub least : Place
  pub is : IsNodeRecord raw layout labels least node
  pub within : AreOneNamedNode raw layout labels least place

-- The circuit has the nodes of the layout in the name order of their preferred names, and its transistors by their least places, with
-- terminals in the name order of their nodes.
pub record IsOwnCircuit (raw : RawTech) (layout : Layout) (labels : List Label) (circuit : Circuit) : Type 0 where
  pub tech : circuit.tech ≡ raw.name
  pub classes : circuit.classes ≡ class_values raw
  pub sound : (node : NodeRec) → In node circuit.nodes → IsNodeOf raw layout labels node
  pub whole : (place : Place) → IsMaterial layout place → IsInSome raw layout labels circuit.nodes place
  pub in_order : AllPairs (λ a b. IsNameBefore a.name b.name) circuit.nodes
  pub fets : AreFetRecords raw layout labels IsNameBefore circuit.fets
