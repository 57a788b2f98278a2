-- The record of a cell, and the records of all cells at and below it.
use Rattle.std.specs.Prelude.{◌≡◌, List, [], ◌∷◌, Some}
use Rattle.circuit_model.specs.GeoCore.Images.{six_of}
use Rattle.tree_records.specs.TechModel.declared.raw.RawTech.{RawTech}
use Rattle.circuit_model.specs.ExtModel.declared.records.CellExt.{CellExt}
use Rattle.circuit_model.specs.ExtModel.declared.records.UseRec.{UseRec}
use Rattle.tree_records.specs.CellNodes.NodeRecords.{AreNodeRecords}
use Rattle.circuit_model.specs.Elements.{ext_of}
use Rattle.tree_records.specs.FetRecords.{AreFetRecords, IsNodeBefore}
use Rattle.tree_records.specs.OwnRecords.{class_values}
use Rattle.tree_records.specs.NamedTrees.{NamedTree, NamedElements, named_elements_in, own_body}
use Rattle.tree_records.specs.NamedTrees.NamedTree.{named_tree}
use Rattle.tree_records.specs.NamedTrees.NamedElements.{no_more, element_then}
use Rattle.tree_records.specs.Merges.{AreGroupMerges}

-- the elements as a record has them, each with its name, its cell's and the six numbers of its transform
abbrev pub use_records : NamedElements → List UseRec
use_records no_more = []
use_records (element_then id placed tree rest) = record { cell = (own_body tree).name; id = id; six = six_of placed } ∷ use_records rest

-- The record of the cell: its elements one level down, the nodes of its own layout by their least places, the transistors of its own layout
-- by theirs, and the merges of its groups.
pub record IsTreeRecord (raw : RawTech) (tree : NamedTree) (ext : CellExt) : Type 0 where
  pub cell : ext.cell ≡ (own_body tree).name
  pub tech : ext.tech ≡ raw.name
  pub classes : ext.classes ≡ class_values raw
  pub uses : ext.uses ≡ use_records (named_elements_in tree)
  pub nodes : AreNodeRecords raw (own_body tree).layout (own_body tree).labels ext.nodes
  pub fets : AreFetRecords raw (own_body tree).layout (own_body tree).labels (IsNodeBefore raw (own_body tree).layout (own_body tree).labels) ext.fets
  pub merges : AreGroupMerges raw tree ext.merges

-- One of these records is found under the cell's name, and is the cell's.
pub record HasTreeRecord (raw : RawTech) (exts : List CellExt) (tree : NamedTree) : Type 0 where
  pub ext : CellExt
  pub found : ext_of exts (own_body tree).name ≡ Some ext
  pub is : IsTreeRecord raw tree ext

-- The same of the cell and of all cells below it.
abbrev mutual
  pub HasTreeRecords : RawTech → List CellExt → NamedTree → Type 0
  HasTreeRecords raw exts (named_tree own elements) = HasTreeRecord raw exts (named_tree own elements) × HaveTreeRecords raw exts elements

  pub HaveTreeRecords : RawTech → List CellExt → NamedElements → Type 0
  HaveTreeRecords raw exts no_more = Unit {0}
  HaveTreeRecords raw exts (element_then id placed tree rest) = HasTreeRecords raw exts tree × HaveTreeRecords raw exts rest
