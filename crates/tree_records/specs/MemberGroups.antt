-- The members of a cell, and the groups that they make: the nodes of its own layout, and the groups of its elements' cells.
use Rattle.std.specs.Prelude.{◌≡◌, ◌⊎◌, ℕ, List, [], ◌∷◌}
use Rattle.offences.specs.FiniteSets.Chain.{Chain}
use Rattle.offences.specs.FiniteSets.Least.{IsLeast}
use Rattle.offences.specs.TechModel.declared.raw.RawTech.{RawTech}
use Rattle.offences.specs.TechModel.Types.{connects}
use Rattle.offences.specs.LayoutModel.Links.{AreLinked}
use Rattle.offences.specs.LayoutModel.Places.{Place}
use Rattle.offences.specs.LayoutModel.CellTrees.{place_back}
use Rattle.tree_records.specs.ExtModel.Paths.{path_text}
use Rattle.tree_records.specs.Names.NamedNodes.{AreOneNamedNode}
use Rattle.tree_records.specs.FetRecords.{IsNoLaterName, IsOfNode}
use Rattle.tree_records.specs.NamedTrees.{NamedTree, NamedElements}
use Rattle.tree_records.specs.NamedTrees.NamedTree.{named_tree}
use Rattle.tree_records.specs.NamedTrees.NamedElements.{no_more, element_then}
use Rattle.tree_records.specs.FlatLayouts.{flat_layout}

-- Two places are of one group of a cell: a way leads from one to the other whose steps are links of the cell's flat layout, or stay within
-- one node of its own layout, or within one group of an element's cell. A global name joins places of one own layout alone: members that share
-- one are not joined by it.
abbrev mutual
  pub AreOneGroup : RawTech → NamedTree → Place → Place → Type 0
  AreOneGroup raw (named_tree own elements) =
      Chain (λ a b. AreLinked (connects raw) (flat_layout raw (named_tree own elements)) a b
      ⊎ (AreOneNamedNode raw own.layout own.labels a b
      ⊎ AreOneGroupBelow raw elements a b))

  pub AreOneGroupBelow : RawTech → NamedElements → Place → Place → Type 0
  AreOneGroupBelow raw no_more a b = ⊥
  AreOneGroupBelow raw (element_then id placed tree rest) a b =
      AreOneGroup raw tree (place_back placed a) (place_back placed b) ⊎ AreOneGroupBelow raw rest a b

abbrev mutual
  -- This is the name of the group that contains the place: the first of its members' names in name order.
  pub IsGroupName : RawTech → NamedTree → Place → List ℕ → Type 0
  IsGroupName raw (named_tree own elements) place name =
      IsLeast IsNoLaterName
      (λ member. (other : Place) × AreOneGroup raw (named_tree own elements) place other
      × (IsOfNode raw own.layout own.labels member other ⊎ IsMemberBelow raw elements other member))
      name

  -- The member of this name is a group of an element's cell, and contains the place.
  pub IsMemberBelow : RawTech → NamedElements → Place → List ℕ → Type 0
  IsMemberBelow raw no_more place member = ⊥
  IsMemberBelow raw (element_then id placed tree rest) place member =
      ((group : List ℕ) × IsGroupName raw tree (place_back placed place) group × (member ≡ path_text (id ∷ []) group))
      ⊎ IsMemberBelow raw rest place member

-- The member of this name contains the place: a node of the own layout, by its preferred name, or a group of an element's cell, by the element's
-- name, a slash and the group's name.
abbrev pub IsMemberAt : RawTech → NamedTree → Place → List ℕ → Type 0
IsMemberAt raw (named_tree own elements) place member = IsOfNode raw own.layout own.labels member place ⊎ IsMemberBelow raw elements place member

-- The member of this name is one of the group that contains the place.
abbrev pub IsMemberOf : RawTech → NamedTree → Place → List ℕ → Type 0
IsMemberOf raw tree place member = (other : Place) × AreOneGroup raw tree place other × IsMemberAt raw tree other member
