-- Paths of a tree that its records join.
use Rattle.std.specs.Prelude.{◌≡◌, ◌⊎◌, ℕ, Some, List, [], ◌∷◌}
use Rattle.name_classes.specs.FiniteSets.Lists.{In}
use Rattle.hierarchy_model.specs.TechModel.declared.raw.RawTech.{RawTech}
use Rattle.own_record_laws.specs.LayoutModel.Places.{Place}
use Rattle.name_classes.specs.ExtModel.declared.records.CellExt.{CellExt}
use Rattle.name_classes.specs.ExtModel.declared.records.MergeRec.{MergeRec}
use Rattle.name_classes.specs.ExtModel.declared.records.NodeRec.{NodeRec}
use Rattle.name_classes.specs.ExtModel.Paths.{path_text}
use Rattle.name_classes.specs.ExtModel.RecordNames.{names_of}
use Rattle.name_classes.specs.CircuitModel.Elements.{ext_of}
use Rattle.own_record_laws.specs.TreeRecords.FlatLayouts.{AreOneFlatNode, HasNodePath}
use Rattle.own_record_laws.specs.TreeRecords.MemberGroups.{AreOneGroup}
use Rattle.own_record_laws.specs.TreeRecords.NamedTrees.{NamedTree, NamedElements}
use Rattle.own_record_laws.specs.TreeRecords.NamedTrees.NamedTree.{named_tree}
use Rattle.own_record_laws.specs.TreeRecords.NamedTrees.NamedElements.{no_more, element_then}

-- The first is the preferred name of a node of the record, and the second one of the node's names.
pub record AreNamesOfNode (ext : CellExt) (first second : List ℕ) : Type 0 where
  pub node : NodeRec
  pub listed : In node ext.nodes
  pub preferred : first ≡ node.name
  pub named : In second (names_of node)

-- They are the two paths of a merge of the record.
pub record AreMergedIn (ext : CellExt) (first second : List ℕ) : Type 0 where
  pub merge : MergeRec
  pub listed : In merge ext.merges
  pub one : first ≡ merge.first
  pub other : second ≡ merge.second

-- The record that is found under the name joins the two paths.
pub record AreJoinedIn (exts : List CellExt) (cell : List ℕ) (first second : List ℕ) : Type 0 where
  pub ext : CellExt
  pub found : ext_of exts cell ≡ Some ext
  pub joined : AreNamesOfNode ext first second ⊎ AreMergedIn ext first second

-- The record of the cell or of one below it, as it stands, joins the two paths.
abbrev mutual
  pub ArePathsJoined : List CellExt → NamedTree → List ℕ → List ℕ → Type 0
  ArePathsJoined exts (named_tree own elements) first second =
      AreJoinedIn exts own.name first second ⊎ ArePathsJoinedBelow exts elements first second

  pub ArePathsJoinedBelow : List CellExt → NamedElements → List ℕ → List ℕ → Type 0
  ArePathsJoinedBelow exts no_more first second = ⊥
  ArePathsJoinedBelow exts (element_then id placed tree rest) first second =
      ((one : List ℕ) × (other : List ℕ) × ArePathsJoined exts tree one other × (first ≡ path_text (id ∷ []) one)
      × (second ≡ path_text (id ∷ []) other))
      ⊎ ArePathsJoinedBelow exts rest first second

-- A place of the group that contains the place has the path.
pub record GroupHasPath (raw : RawTech) (tree : NamedTree) (place : Place) (path : List ℕ) : Type 0 where
  pub other : Place
  pub together : AreOneGroup raw tree place other
  pub has : HasNodePath raw tree other path

-- Two places of one flat node have the two paths.
pub record ShareFlatNode (raw : RawTech) (tree : NamedTree) (first second : List ℕ) : Type 0 where
  pub place : Place
  pub other : Place
  pub has : HasNodePath raw tree place first
  pub other_has : HasNodePath raw tree other second
  pub together : AreOneFlatNode raw tree place other
