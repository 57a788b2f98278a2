-- The laws of names in cells that use each other, as statements.
use Rattle.std.specs.Prelude.{◌≡◌, ◌≤◌, ◌↔◌, ℕ, Some, List, []}
use Rattle.name_classes.specs.FiniteSets.Chain.{Chain}
use Rattle.name_classes.specs.FiniteSets.Lists.{In}
use Rattle.name_classes.specs.FiniteSets.OneForOne.{AreOneForOne}
use Rattle.hierarchy_model.specs.TechModel.declared.raw.RawTech.{RawTech}
use Rattle.hierarchy_model.specs.TechModel.Rules.{KeepsRules}
use Rattle.hierarchy_model.specs.TechModel.WellFormed.{IsWellFormed}
use Rattle.own_record_laws.specs.LayoutModel.LayerTypes.{HasTypesOf}
use Rattle.own_record_laws.specs.LayoutModel.Layouts.{IsMaterial}
use Rattle.own_record_laws.specs.LayoutModel.Places.{Place}
use Rattle.hierarchy_model.specs.LayoutModel.FlatSets.{IsTyped}
use Rattle.own_record_laws.specs.Names.NamedNodes.{AreOneNamedNode}
use Rattle.name_classes.specs.ExtModel.declared.records.CellExt.{CellExt}
use Rattle.name_classes.specs.ExtModel.declared.records.NodeRec.{NodeRec}
use Rattle.name_classes.specs.CircuitModel.declared.limits.TheConstants.{LONGEST_CHAIN}
use Rattle.name_classes.specs.CircuitModel.Elements.{Element, elements_of, ext_of}
use Rattle.name_classes.specs.CircuitModel.FlatNodes.{AreFlatNodes}
use Rattle.name_classes.specs.CircuitModel.FullNames.{AreOneNode, IsFullName}
use Rattle.name_classes.specs.ExtModel.Paths.{full_name}
use Rattle.own_record_laws.specs.TreeRecords.FetRecords.{IsOfNode}
use Rattle.own_record_laws.specs.TreeRecords.FlatLayouts.{AreOneFlatNode, HasOwnName, HasNodePath, IsFlatName, flat_layout}
use Rattle.own_record_laws.specs.TreeRecords.MemberGroups.{AreOneGroup, IsGroupName, IsMemberAt}
use Rattle.own_record_laws.specs.TreeRecords.NamedTrees.{NamedTree, OwnBody, layouts_of, named_standings, own_body}
use Rattle.own_record_laws.specs.TreeRecords.TreeCircuits.{IsPointOf}
use Rattle.own_record_laws.specs.TreeRecords.TreeRecords.{HasTreeRecords}
use Rattle.tree_names.specs.CircuitNodes.{NameFlatNodes}
use Rattle.tree_names.specs.CleanTrees.{IsCleanTree, depth_of}
use Rattle.tree_names.specs.PartLinks.{PartsKeepLinks}
use Rattle.tree_names.specs.PathLinks.{ArePathsJoined, GroupHasPath, ShareFlatNode}
use Rattle.tree_names.specs.TreeElements.{IsElementFor}

-- the links of the parts of a clean cell are links of its flat layout
abbrev pub PartsKeepTheirLinks : Type 0
PartsKeepTheirLinks = (raw : RawTech) (tree : NamedTree) → IsWellFormed raw → KeepsRules raw → IsCleanTree raw tree → PartsKeepLinks raw tree

-- two places of one group of a clean cell are of one flat node
abbrev pub GroupsAreOfOneFlatNode : Type 0
GroupsAreOfOneFlatNode =
    (raw : RawTech) (tree : NamedTree) → IsWellFormed raw → KeepsRules raw → IsCleanTree raw tree
    → (a b : Place) → AreOneGroup raw tree a b → AreOneFlatNode raw tree a b

-- the elements of the records of a tree are the cells of the tree as they stand, in order, where the records of no longer chain are read
abbrev pub ElementsAreTheCellsAsTheyStand : Type 0
ElementsAreTheCellsAsTheyStand =
    (raw : RawTech) (exts : List CellExt) (tree : NamedTree) (root : CellExt) → HasTreeRecords raw exts tree
    → ext_of exts (own_body tree).name ≡ Some root → depth_of tree ≤ LONGEST_CHAIN
    → AreOneForOne (IsElementFor raw exts) (named_standings tree) (elements_of exts root)

-- Nodes of an own layout that go by one name are one, and a node goes by one preferred name.
pub record NamesTellNodes (raw : RawTech) (own : OwnBody) : Type 0 where
  pub nodes : (a b : Place) (name : List ℕ) → HasOwnName raw own a name → HasOwnName raw own b name
      → AreOneNamedNode raw own.layout own.labels a b
  pub preferred : (place : Place) (name other : List ℕ) → IsOfNode raw own.layout own.labels name place
      → IsOfNode raw own.layout own.labels other place → name ≡ other

-- names tell the nodes of own layouts that have types of the technology alone
abbrev pub OwnNamesTellNodes : Type 0
OwnNamesTellNodes = (raw : RawTech) (own : OwnBody) → IsWellFormed raw → HasTypesOf raw own.layout → NamesTellNodes raw own

-- Members that go by one name are of one group, and so are groups that do. A group goes by one name, which is the same at all its places.
pub record NamesTellGroups (raw : RawTech) (tree : NamedTree) : Type 0 where
  pub members : (a b : Place) (member : List ℕ) → IsMemberAt raw tree a member → IsMemberAt raw tree b member → AreOneGroup raw tree a b
  pub groups : (a b : Place) (name : List ℕ) → IsGroupName raw tree a name → IsGroupName raw tree b name → AreOneGroup raw tree a b
  pub one : (place : Place) (name other : List ℕ) → IsGroupName raw tree place name → IsGroupName raw tree place other → name ≡ other
  pub along : (a b : Place) (name : List ℕ) → AreOneGroup raw tree a b → IsGroupName raw tree a name → IsGroupName raw tree b name

-- names tell the groups of clean cells
abbrev pub GroupNamesTellGroups : Type 0
GroupNamesTellGroups = (raw : RawTech) (tree : NamedTree) → IsWellFormed raw → IsCleanTree raw tree → NamesTellGroups raw tree

-- the name of a group is the path of a node in the group
abbrev pub GroupNamesArePaths : Type 0
GroupNamesArePaths = (raw : RawTech) (tree : NamedTree) (place : Place) (name : List ℕ) → IsGroupName raw tree place name
    → GroupHasPath raw tree place name

-- each path of a place of a clean cell is joined by the records of the tree with the name of the place's group
abbrev pub PathsLeadToGroups : Type 0
PathsLeadToGroups =
    (raw : RawTech) (exts : List CellExt) (tree : NamedTree) → IsWellFormed raw → KeepsRules raw → IsCleanTree raw tree
    → HasTreeRecords raw exts tree
    → (place : Place) (path name : List ℕ) → HasNodePath raw tree place path → IsGroupName raw tree place name
    → Chain (ArePathsJoined exts tree) name path

-- two paths that a record of the tree of a clean cell joins have places of one flat node
abbrev pub JoinedPathsShareFlatNodes : Type 0
JoinedPathsShareFlatNodes =
    (raw : RawTech) (exts : List CellExt) (tree : NamedTree) → IsWellFormed raw → KeepsRules raw → IsCleanTree raw tree
    → HasTreeRecords raw exts tree
    → (first second : List ℕ) → ArePathsJoined exts tree first second → ShareFlatNode raw tree first second

-- Paths are those of places with material, and each of these has one.
pub record PathsAreAtMaterial (raw : RawTech) (tree : NamedTree) : Type 0 where
  pub material : (place : Place) (path : List ℕ) → HasNodePath raw tree place path → IsMaterial (flat_layout raw tree) place
  pub some : (place : Place) → IsMaterial (flat_layout raw tree) place → (path : List ℕ) × HasNodePath raw tree place path

-- the places of the flat layout of a clean cell that have material are those that have a path
abbrev pub PathsAreWhereMaterialIs : Type 0
PathsAreWhereMaterialIs =
    (raw : RawTech) (exts : List CellExt) (tree : NamedTree) → IsWellFormed raw → KeepsRules raw → IsCleanTree raw tree
    → HasTreeRecords raw exts tree
    → PathsAreAtMaterial raw tree

-- What the records of a tree say of a clean cell's flat nodes. The elements are those of the records.
pub record NamesTellFlatNodes (raw : RawTech) (tree : NamedTree) (elements : List Element) : Type 0 where
  -- places are of one flat node exactly where the full names of their paths are of one node
  pub nodes : (a b : Place) (path other : List ℕ) → HasNodePath raw tree a path → HasNodePath raw tree b other
      → AreOneFlatNode raw tree a b ↔ AreOneNode elements (full_name [] path) (full_name [] other)
  -- the names of a flat node are the full names of the records that are of one node with the full name of one of its paths
  pub names : (place : Place) (path : List ℕ) → HasNodePath raw tree place path → (name : List ℕ)
      → IsFlatName raw tree place name ↔ (IsFullName elements name × AreOneNode elements (full_name [] path) name)

-- the records of a clean cell and of all below it tell its flat nodes
abbrev pub RecordsTellFlatNodes : Type 0
RecordsTellFlatNodes =
    (raw : RawTech) (exts : List CellExt) (tree : NamedTree) (root : CellExt) → IsWellFormed raw → KeepsRules raw → IsCleanTree raw tree
    → HasTreeRecords raw exts tree → ext_of exts (own_body tree).name ≡ Some root → depth_of tree ≤ LONGEST_CHAIN
    → NamesTellFlatNodes raw tree (elements_of exts root)

-- the nodes that the records of a clean cell and of all below it mean have the names of the flat nodes
abbrev pub CircuitsNameFlatNodes : Type 0
CircuitsNameFlatNodes =
    (raw : RawTech) (exts : List CellExt) (tree : NamedTree) (root : CellExt) (classes : ℕ) (nodes : List NodeRec) → IsWellFormed raw
    → KeepsRules raw → IsCleanTree raw tree → HasTreeRecords raw exts tree → ext_of exts (own_body tree).name ≡ Some root
    → depth_of tree ≤ LONGEST_CHAIN → AreFlatNodes (elements_of exts root) classes nodes → NameFlatNodes raw tree nodes

-- the nodes that the records of a cell and of all below it mean have the points and kinds of the flat nodes with their preferred names
abbrev pub CircuitsPlaceFlatNodes : Type 0
CircuitsPlaceFlatNodes =
    (raw : RawTech) (exts : List CellExt) (tree : NamedTree) (root : CellExt) (classes : ℕ) (nodes : List NodeRec) → IsWellFormed raw
    → IsTyped raw (layouts_of tree) → HasTreeRecords raw exts tree → ext_of exts (own_body tree).name ≡ Some root
    → depth_of tree ≤ LONGEST_CHAIN
    → AreFlatNodes (elements_of exts root) classes nodes → (node : NodeRec) → In node nodes → IsPointOf raw tree node
