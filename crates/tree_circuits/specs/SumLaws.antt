-- The laws of sums over the records of a tree, as statements.
use Rattle.std.specs.Prelude.{◌≡◌, ◌≤◌, ℕ, ℤ, Some, List, [], Bool, length, map, slice_get}
use Rattle.finite_sets.specs.Lists.{In}
use Rattle.finite_sets.specs.Total.{Total}
use Rattle.tree_names.specs.TechModel.declared.raw.RawTech.{RawTech}
use Rattle.tree_names.specs.TechModel.Rules.{KeepsRules}
use Rattle.tree_names.specs.TechModel.WellFormed.{IsWellFormed}
use Rattle.tree_names.specs.ExtModel.Paths.{full_name}
use Rattle.tree_names.specs.ExtModel.declared.records.CellExt.{CellExt}
use Rattle.tree_names.specs.ExtModel.declared.records.NodeRec.{NodeRec}
use Rattle.tree_names.specs.ExtModel.RecordNames.{names_of}
use Rattle.tree_names.specs.LayoutModel.Layouts.{IsMaterial}
use Rattle.tree_names.specs.LayoutModel.Nodes.{AreMeasures}
use Rattle.tree_names.specs.LayoutModel.Places.{Place}
use Rattle.tree_names.specs.LayoutModel.Technologies.{Class, capacitance, rules_of}
use Rattle.tree_names.specs.CircuitModel.declared.limits.TheConstants.{LONGEST_CHAIN}
use Rattle.tree_names.specs.CircuitModel.Elements.{elements_of, ext_of}
use Rattle.tree_names.specs.CircuitModel.FlatNodes.{AreFlatNodes, IsFlatNode, has_name, sum_of}
use Rattle.tree_names.specs.CircuitModel.FullNames.{AreInNameOrder}
use Rattle.tree_names.specs.TreeRecords.FlatLayouts.{AreOneFlatNode, HasNodePath, flat_layout}
use Rattle.tree_names.specs.TreeRecords.NamedTrees.{NamedTree, own_body}
use Rattle.tree_names.specs.TreeRecords.TreeCircuits.{HasNodeRecord, IsFlatNodeRecord}
use Rattle.tree_names.specs.TreeRecords.TreeRecords.{HasTreeRecords}
use Rattle.tree_names.specs.CleanTrees.{IsCleanTree, depth_of}
use Rattle.tree_circuits.specs.TreeSums.{RecordedQuantity, recorded_cap, recorded_area, recorded_perimeter, tree_sum, IsOfGroups, AreGroupTotals, sum_passing}

-- The fact holds of capacitances, and of areas and perimeters in each class.
pub record HoldsOfEach (raw : RawTech) (Fact : RecordedQuantity → Type 0) : Type 0 where
  pub cap : Fact (recorded_cap raw)
  pub areas : (position : ℕ) (class : Class) → slice_get (rules_of raw).classes position ≡ Some class → Fact (recorded_area position class)
  pub perimeters : (position : ℕ) (class : Class) → slice_get (rules_of raw).classes position ≡ Some class → Fact (recorded_perimeter position class)

-- Each group of the cell has a total. What the records of the cell and of all cells below it have together that passes a test of groups is
-- the total of the groups that pass.
pub record HasClosedSums (raw : RawTech) (exts : List CellExt) (tree : NamedTree) (quantity : RecordedQuantity) : Type 0 where
  pub groups : List (List ℕ × ℤ)
  pub are : AreGroupTotals raw quantity.weight tree groups
  pub closes : (passes : List ℕ → Bool) → IsOfGroups raw tree passes → tree_sum quantity exts tree passes ≡ sum_passing passes groups

-- the sums over the records of a clean cell and of all cells below it are closed
abbrev pub SumsOfRecordsClose : Type 0
SumsOfRecordsClose =
    (raw : RawTech) (exts : List CellExt) (tree : NamedTree) → IsWellFormed raw → KeepsRules raw → IsCleanTree raw tree → HasTreeRecords raw exts tree
    → HoldsOfEach raw (HasClosedSums raw exts tree)

-- the totals of the groups of a cell are its alone: all lists of them have the same sums
abbrev pub GroupTotalsAreUnique : Type 0
GroupTotalsAreUnique =
    (raw : RawTech) (tree : NamedTree) (quantity : RecordedQuantity) (groups others : List (List ℕ × ℤ)) → AreGroupTotals raw quantity.weight tree groups
    → AreGroupTotals raw quantity.weight tree others → (passes : List ℕ → Bool) → sum_passing passes groups ≡ sum_passing passes others

-- the test of a path whose full name is the flat node's
abbrev pub is_named : NodeRec → List ℕ → Bool
is_named node path = has_name node (full_name [] path)

-- what the elements of the records have of a flat node is what the tree's records have whose paths' full names are the node's
abbrev pub ElementsHaveTheSums : Type 0
ElementsHaveTheSums =
    (raw : RawTech) (exts : List CellExt) (tree : NamedTree) (root : CellExt) (quantity : RecordedQuantity) (node : NodeRec) → HasTreeRecords raw exts tree
    → ext_of exts (own_body tree).name ≡ Some root → depth_of tree ≤ LONGEST_CHAIN
    → sum_of node quantity.of_node quantity.of_merge (elements_of exts root) ≡ tree_sum quantity exts tree (is_named node)

-- What the elements of the records have of the flat node is the total of the groups whose names are the node's.
abbrev pub HasSumsOfGroups : RawTech → List CellExt → NamedTree → CellExt → NodeRec → RecordedQuantity → Type 0
HasSumsOfGroups raw exts tree root node quantity =
    (groups : List (List ℕ × ℤ)) → AreGroupTotals raw quantity.weight tree groups
    → sum_of node quantity.of_node quantity.of_merge (elements_of exts root) ≡ sum_passing (is_named node) groups

-- the sums of a flat node, where its names are those of whole groups, are the totals of these groups
abbrev pub FlatNodesHaveTheSumsOfTheirGroups : Type 0
FlatNodesHaveTheSumsOfTheirGroups =
    (raw : RawTech) (exts : List CellExt) (tree : NamedTree) (root : CellExt) (node : NodeRec) → IsWellFormed raw → KeepsRules raw
    → IsCleanTree raw tree → HasTreeRecords raw exts tree → ext_of exts (own_body tree).name ≡ Some root → depth_of tree ≤ LONGEST_CHAIN
    → IsOfGroups raw tree (is_named node) → HoldsOfEach raw (HasSumsOfGroups raw exts tree root node)

-- the names of a flat node that the records mean are those of whole groups, in the cell and in all cells below it
abbrev pub NamesAreThoseOfGroups : Type 0
NamesAreThoseOfGroups =
    (raw : RawTech) (exts : List CellExt) (tree : NamedTree) (root : CellExt) (classes : ℕ) (node : NodeRec) → IsWellFormed raw → KeepsRules raw
    → IsCleanTree raw tree → HasTreeRecords raw exts tree → ext_of exts (own_body tree).name ≡ Some root → depth_of tree ≤ LONGEST_CHAIN
    → IsFlatNode (elements_of exts root) classes node → IsOfGroups raw tree (is_named node)

-- What the elements of the records have of the flat node is what the places of the flat layout's node at this place weigh.
abbrev pub HasSumOfPlaces : RawTech → List CellExt → NamedTree → CellExt → NodeRec → Place → RecordedQuantity → Type 0
HasSumOfPlaces raw exts tree root node place quantity =
    Total (AreOneFlatNode raw tree place) (quantity.weight (flat_layout raw tree))
    (sum_of node quantity.of_node quantity.of_merge (elements_of exts root))

-- the sums of a flat node that the records mean are sums over the places of the flat layout's node that has a place of one of its names
abbrev pub FlatNodesHaveTheSumsOfTheirPlaces : Type 0
FlatNodesHaveTheSumsOfTheirPlaces =
    (raw : RawTech) (exts : List CellExt) (tree : NamedTree) (root : CellExt) (classes : ℕ) (node : NodeRec) → IsWellFormed raw → KeepsRules raw
    → IsCleanTree raw tree → HasTreeRecords raw exts tree → ext_of exts (own_body tree).name ≡ Some root → depth_of tree ≤ LONGEST_CHAIN
    → IsFlatNode (elements_of exts root) classes node
    → (place : Place) (path : List ℕ) → HasNodePath raw tree place path → In (full_name [] path) (names_of node)
    → HoldsOfEach raw (HasSumOfPlaces raw exts tree root node place)

-- The record has the areas and perimeters of the flat layout's node at the place, and the capacitance of these.
pub record IsMeasured (raw : RawTech) (tree : NamedTree) (place : Place) (node : NodeRec) : Type 0 where
  pub measures : AreMeasures (rules_of raw).classes (flat_layout raw tree) (AreOneFlatNode raw tree place) node.measures
  pub cap : node.cap ≡ capacitance (rules_of raw).classes node.measures

-- a flat node that the records mean has the measures of the flat layout's node that has a place of one of its names
abbrev pub FlatNodesAreMeasured : Type 0
FlatNodesAreMeasured =
    (raw : RawTech) (exts : List CellExt) (tree : NamedTree) (root : CellExt) (node : NodeRec) → IsWellFormed raw → KeepsRules raw
    → IsCleanTree raw tree → HasTreeRecords raw exts tree → ext_of exts (own_body tree).name ≡ Some root → depth_of tree ≤ LONGEST_CHAIN
    → IsFlatNode (elements_of exts root) (length root.classes) node
    → (place : Place) (path : List ℕ) → HasNodePath raw tree place path → In (full_name [] path) (names_of node) → IsMeasured raw tree place node

-- The nodes are those of the flat layout in the name order of their preferred names: each is one's record, and each flat node has one.
pub record HasFlatNodes (raw : RawTech) (tree : NamedTree) (nodes : List NodeRec) : Type 0 where
  pub sound : (node : NodeRec) → In node nodes → (place : Place) × IsFlatNodeRecord raw tree place node
  pub whole : (place : Place) → IsMaterial (flat_layout raw tree) place → HasNodeRecord raw tree nodes place
  pub in_order : AreInNameOrder (map (λ node. node.name) nodes)

-- the nodes that the records of a clean cell and of all below it mean are those of its flat layout
abbrev pub CircuitsHaveTheFlatNodes : Type 0
CircuitsHaveTheFlatNodes =
    (raw : RawTech) (exts : List CellExt) (tree : NamedTree) (root : CellExt) (nodes : List NodeRec) → IsWellFormed raw → KeepsRules raw
    → IsCleanTree raw tree → HasTreeRecords raw exts tree → ext_of exts (own_body tree).name ≡ Some root → depth_of tree ≤ LONGEST_CHAIN
    → AreFlatNodes (elements_of exts root) (length root.classes) nodes → HasFlatNodes raw tree nodes
