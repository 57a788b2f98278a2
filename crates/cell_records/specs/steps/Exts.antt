-- The record of a cell without uses, from its parts.
use Rattle.std.specs.Prelude.{◌≡◌, ℕ, List, []}
use Rattle.tech_model.specs.declared.raw.RawTech.{RawTech}
use Rattle.ext_model.specs.declared.records.CellExt.{CellExt}
use Rattle.ext_model.specs.declared.records.FetRec.{FetRec}
use Rattle.ext_model.specs.declared.records.NodeRec.{NodeRec}
use Rattle.own_record_laws.specs.TreeRecords.OwnRecords.{class_values}

-- The record has the name, the technology's name and values, these nodes and transistors, and no uses and merges.
pub record IsExtOf (raw : RawTech) (name : List ℕ) (nodes : List NodeRec) (fets : List FetRec) (ext : CellExt) : Type 0 where
  pub cell : ext.cell ≡ name
  pub tech : ext.tech ≡ raw.name
  pub classes : ext.classes ≡ class_values raw
  pub uses : ext.uses ≡ []
  pub nodes_are : ext.nodes ≡ nodes
  pub fets_are : ext.fets ≡ fets
  pub merges : ext.merges ≡ []
