-- The members of a cell by the parts that they are of, and how two of them meet.
use Rattle.std.specs.Prelude.{◌≡◌, ℕ, zero, suc, List, [], ◌∷◌}
use Rattle.tech_model.specs.declared.raw.RawTech.{RawTech}
use Rattle.tech_model.specs.Types.{connects}
use Rattle.tree_names.specs.LayoutModel.Layouts.{IsMaterial}
use Rattle.tree_names.specs.LayoutModel.Links.{AreOneNode}
use Rattle.tree_names.specs.LayoutModel.Places.{Place}
use Rattle.tree_names.specs.LayoutModel.CellTrees.{place_back}
use Rattle.tree_names.specs.LayoutModel.FlatSets.{parts_in}
use Rattle.tree_names.specs.ExtModel.Paths.{path_text}
use Rattle.meeting_laws.specs.Offences.Offences.{SetLayout}
use Rattle.meeting_laws.specs.HierarchyModel.Restrictions.{PartStands}
use Rattle.tree_names.specs.TreeRecords.FetRecords.{IsOfNode}
use Rattle.meeting_laws.specs.TreeRecords.NamedTrees.{NamedTree, NamedElements, layouts_of}
use Rattle.meeting_laws.specs.TreeRecords.NamedTrees.NamedTree.{named_tree}
use Rattle.meeting_laws.specs.TreeRecords.NamedTrees.NamedElements.{no_more, element_then}
use Rattle.meeting_laws.specs.TreeRecords.MemberGroups.{IsGroupName, IsMemberAt}
use Rattle.meeting_laws.specs.PartLayouts.{parts_layout}

-- the parts of a cell: its own layout, and the flat layout of each element
abbrev pub tree_parts : RawTech → NamedTree → List SetLayout
tree_parts raw tree = parts_in raw (layouts_of tree)

-- The member is a group of the cell of the element at this position, and has the place.
abbrev pub IsMemberOfElement : RawTech → NamedElements → ℕ → Place → List ℕ → Type 0
IsMemberOfElement raw no_more position place member = ⊥
IsMemberOfElement raw (element_then id placed tree rest) zero place member =
    (group : List ℕ) × IsGroupName raw tree (place_back placed place) group × (member ≡ path_text (id ∷ []) group)
IsMemberOfElement raw (element_then id placed tree rest) (suc position) place member = IsMemberOfElement raw rest position place member

-- The member is of the part at this position, and has the place: a node of the own layout, or a group of the cell of an element.
abbrev pub IsMemberOfPart : RawTech → NamedTree → ℕ → Place → List ℕ → Type 0
IsMemberOfPart raw (named_tree own elements) zero place member = IsOfNode raw own.layout own.labels member place
IsMemberOfPart raw (named_tree own elements) (suc position) place member = IsMemberOfElement raw elements position place member

-- Wherever a part of the cell stands, it has a member.
abbrev pub PartsHaveMembers : RawTech → NamedTree → Type 0
PartsHaveMembers raw tree =
    (position : ℕ) (place : Place) → PartStands (tree_parts raw tree) position place → (member : List ℕ) × IsMemberOfPart raw tree position place member

-- Links of the flat layout of these restricted parts join a place of the one member to a place of the other.
pub record MeetInRegion (raw : RawTech) (tree : NamedTree) (others : List SetLayout) (first second : List ℕ) : Type 0 where
  pub here : Place
  pub there : Place
  pub first_has : IsMemberAt raw tree here first
  pub second_has : IsMemberAt raw tree there second
  pub material : IsMaterial (parts_layout raw others) here
  pub joined : AreOneNode (connects raw) (parts_layout raw others) here there
