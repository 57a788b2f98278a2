-- Nodes of a circuit that go by the names of flat nodes.
use Rattle.std.specs.Prelude.{◌↔◌, ℕ, List}
use Rattle.name_classes.specs.FiniteSets.Lists.{In}
use Rattle.hierarchy_model.specs.TechModel.declared.raw.RawTech.{RawTech}
use Rattle.own_record_laws.specs.LayoutModel.Layouts.{IsMaterial}
use Rattle.own_record_laws.specs.LayoutModel.Places.{Place}
use Rattle.name_classes.specs.ExtModel.declared.records.NodeRec.{NodeRec}
use Rattle.name_classes.specs.ExtModel.RecordNames.{names_of}
use Rattle.own_record_laws.specs.TreeRecords.FlatLayouts.{IsFlatName, IsOfFlatNode, flat_layout}
use Rattle.own_record_laws.specs.TreeRecords.NamedTrees.{NamedTree}

-- The names of the node are those of the flat node that contains the place, and its preferred name is the flat node's.
pub record IsNamedAsFlatNode (raw : RawTech) (tree : NamedTree) (place : Place) (node : NodeRec) : Type 0 where
  pub names : (name : List ℕ) → In name (names_of node) ↔ IsFlatName raw tree place name
  pub preferred : IsOfFlatNode raw tree node.name place

-- Each of the nodes has the names of a flat node, and each flat node's names are those of one of the nodes.
pub record NameFlatNodes (raw : RawTech) (tree : NamedTree) (nodes : List NodeRec) : Type 0 where
  pub sound : (node : NodeRec) → In node nodes → (place : Place) × IsNamedAsFlatNode raw tree place node
  pub whole : (place : Place) → IsMaterial (flat_layout raw tree) place → (node : NodeRec) × In node nodes
      × IsNamedAsFlatNode raw tree place node
