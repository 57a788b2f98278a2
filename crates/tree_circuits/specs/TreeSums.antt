-- What the records of a tree have of a quantity, and what the groups of the cell at the top have of it.
use Rattle.std.specs.Prelude.{◌≡◌, ℕ, ℤ, pos, ◌+ℤ◌, Bool, if◌then◌else◌, Option, Some, None, List, [], ◌∷◌, map}
use Rattle.finite_sets.specs.Lists.{In, Lists}
use Rattle.finite_sets.specs.Total.{sum_on}
use Rattle.tree_names.specs.TechModel.declared.raw.RawTech.{RawTech}
use Rattle.tree_names.specs.LayoutModel.Places.{Place}
use Rattle.tree_names.specs.LayoutModel.Technologies.{Class, rules_of}
use Rattle.tree_names.specs.ExtModel.Paths.{path_text}
use Rattle.tree_names.specs.ExtModel.declared.records.CellExt.{CellExt}
use Rattle.tree_names.specs.ExtModel.declared.records.MergeRec.{MergeRec}
use Rattle.tree_names.specs.ExtModel.declared.records.NodeRec.{NodeRec}
use Rattle.tree_names.specs.CircuitModel.Elements.{ext_of}
use Rattle.tree_names.specs.CircuitModel.FlatNodes.{measure_of}
use Rattle.tree_names.specs.TreeRecords.NamedTrees.{NamedTree, NamedElements}
use Rattle.tree_names.specs.TreeRecords.NamedTrees.NamedTree.{named_tree}
use Rattle.tree_names.specs.TreeRecords.NamedTrees.NamedElements.{no_more, element_then}
use Rattle.tree_names.specs.TreeRecords.MemberGroups.{IsGroupName, IsMemberAt}
use Rattle.tree_names.specs.TreeRecords.PlaceWeights.{PlaceWeight, area_weight, perimeter_weight, capacitance_weight, IsGroupTotal}

-- a quantity, by the weight of places whose sum it is, with what a node's record and a merge's have of it
pub record RecordedQuantity : Type 0 where
  pub weight : PlaceWeight
  pub of_node : NodeRec → ℤ
  pub of_merge : MergeRec → ℤ

-- the capacitance
abbrev pub recorded_cap : RawTech → RecordedQuantity
recorded_cap raw = record {
  weight = capacitance_weight (rules_of raw).classes;
  of_node = λ node. node.cap;
  of_merge = λ merge. merge.cap;
}

-- the area in the class at this position
abbrev pub recorded_area : ℕ → Class → RecordedQuantity
recorded_area position class = record {
  weight = area_weight class;
  of_node = λ node. (measure_of position node.measures).0;
  of_merge = λ merge. (measure_of position merge.measures).0;
}

-- the perimeter in the class at this position
abbrev pub recorded_perimeter : ℕ → Class → RecordedQuantity
recorded_perimeter position class = record {
  weight = perimeter_weight class;
  of_node = λ node. (measure_of position node.measures).1;
  of_merge = λ merge. (measure_of position merge.measures).1;
}

-- what a record has of it: of the nodes whose preferred names pass the test, and of the merges whose first paths do
abbrev pub record_sum : RecordedQuantity → (List ℕ → Bool) → CellExt → ℤ
record_sum quantity passes ext =
    sum_on (λ node. if passes node.name then quantity.of_node node else pos 0) ext.nodes
    +ℤ sum_on (λ merge. if passes merge.first then quantity.of_merge merge else pos 0) ext.merges

-- the same of the record that is found, if one is
abbrev pub found_sum : RecordedQuantity → (List ℕ → Bool) → Option CellExt → ℤ
found_sum quantity passes None = pos 0
found_sum quantity passes (Some ext) = record_sum quantity passes ext

-- What the records of a cell and of all cells below it have together. The test is one of paths from the cell at the top.
abbrev mutual
  pub tree_sum : RecordedQuantity → List CellExt → NamedTree → (List ℕ → Bool) → ℤ
  tree_sum quantity exts (named_tree own elements) passes = found_sum quantity passes (ext_of exts own.name) +ℤ tree_sum_below quantity exts elements passes

  pub tree_sum_below : RecordedQuantity → List CellExt → NamedElements → (List ℕ → Bool) → ℤ
  tree_sum_below quantity exts no_more passes = pos 0
  tree_sum_below quantity exts (element_then id placed tree rest) passes =
      tree_sum quantity exts tree (λ path. passes (path_text (id ∷ []) path)) +ℤ tree_sum_below quantity exts rest passes

-- The test says the same of a member and of the group that has a place of it, in the cell and in all cells below it.
abbrev mutual
  pub IsOfGroups : RawTech → NamedTree → (List ℕ → Bool) → Type 0
  IsOfGroups raw (named_tree own elements) passes =
      ((place : Place) (member name : List ℕ) → IsMemberAt raw (named_tree own elements) place member
      → IsGroupName raw (named_tree own elements) place name → passes member ≡ passes name)
      × AreOfGroups raw elements passes

  pub AreOfGroups : RawTech → NamedElements → (List ℕ → Bool) → Type 0
  AreOfGroups raw no_more passes = Unit {0}
  AreOfGroups raw (element_then id placed tree rest) passes =
      IsOfGroups raw tree (λ path. passes (path_text (id ∷ []) path)) × AreOfGroups raw rest passes

-- some group of the cell goes by this name
abbrev pub NamesGroup : RawTech → NamedTree → List ℕ → Type 0
NamesGroup raw tree name = (place : Place) × IsGroupName raw tree place name

-- These are the names of all groups of the cell, each once, each with what its places weigh in the flat layout.
pub record AreGroupTotals (raw : RawTech) (weight : PlaceWeight) (tree : NamedTree) (groups : List (List ℕ × ℤ)) : Type 0 where
  pub named : Lists (NamesGroup raw tree) (map (λ group. group.0) groups)
  pub totals : (group : List ℕ × ℤ) → In group groups → IsGroupTotal raw weight tree group.0 group.1

-- what is counted of those whose names pass the test
abbrev pub sum_passing : (List ℕ → Bool) → List (List ℕ × ℤ) → ℤ
sum_passing passes counted = sum_on (λ one. if passes one.0 then one.1 else pos 0) counted
