-- Laws of the groups of a clean cell and of the squares at which its parts meet, as statements.
use Rattle.std.specs.Prelude.{◌≡◌, ◌≢◌, ◌⊎◌, ℕ, Bool, List}
use Rattle.finite_sets.specs.Chain.{Chain}
use Rattle.tech_model.specs.GeoCore.declared.squares.Square.{Square}
use Rattle.tech_model.specs.declared.raw.RawTech.{RawTech}
use Rattle.tech_model.specs.Rules.{KeepsRules}
use Rattle.tech_model.specs.Types.{connects}
use Rattle.tech_model.specs.WellFormed.{IsWellFormed}
use Rattle.tree_names.specs.LayoutModel.Links.{AreLinked, AreOneNode}
use Rattle.tree_names.specs.LayoutModel.Places.{Place}
use Rattle.tree_names.specs.LayoutModel.FlatSets.{IsTyped}
use Rattle.meeting_laws.specs.Offences.Offences.{SetLayout}
use Rattle.meeting_laws.specs.HierarchyModel.CleanCells.{IsClean}
use Rattle.meeting_laws.specs.HierarchyModel.Restrictions.{IsRestriction}
use Rattle.tree_names.specs.ExtModel.declared.records.CellExt.{CellExt}
use Rattle.tree_names.specs.ExtModel.declared.records.NodeRec.{NodeRec}
use Rattle.tree_names.specs.CellNodes.NodeRecords.{AreNodeRecords}
use Rattle.meeting_laws.specs.TreeRecords.NamedTrees.{NamedTree, named_elements_in, layouts_of, own_body}
use Rattle.meeting_laws.specs.TreeRecords.TreeRecords.{HaveTreeRecords}
use Rattle.meeting_laws.specs.TreeRecords.FlatLayouts.{flat_layout}
use Rattle.meeting_laws.specs.TreeRecords.MemberGroups.{AreOneGroup, IsMemberAt, IsMemberOf}
use Rattle.meeting_laws.specs.PartLayouts.{parts_layout, Passes, HoldsAllMeetings}
use Rattle.group_meetings.specs.Members.{tree_parts, PartsHaveMembers, MeetInRegion}

-- The cell is clean, with types of the technology alone, these squares have each at which its parts meet, and the others are the parts
-- restricted to them.
pub record IsRestrictedTo (raw : RawTech) (within : Square → Bool) (tree : NamedTree) (others : List SetLayout) : Type 0 where
  pub typed : IsTyped raw (layouts_of tree)
  pub clean : IsClean raw (layouts_of tree)
  pub holds : HoldsAllMeetings (Passes within) (tree_parts raw tree)
  pub restricted : IsRestriction (Passes within) (tree_parts raw tree) others

-- Two different members that share a place, or have places that the flat layout links, meet in one region of the restricted flat layout.
abbrev pub DifferentMembersMeetInRegions : RawTech → Type 0
DifferentMembersMeetInRegions raw =
    IsWellFormed raw → KeepsRules raw → (within : Square → Bool) (tree : NamedTree) (others : List SetLayout) → IsRestrictedTo raw within tree others
    → (a b : Place) (first second : List ℕ) → IsMemberAt raw tree a first → IsMemberAt raw tree b second → first ≢ second
    → (a ≡ b) ⊎ AreLinked (connects raw) (flat_layout raw tree) a b → MeetInRegion raw tree others first second

-- Where the nodes of the own layout and the cells of the elements have records, each part has members.
abbrev pub RecordedPartsHaveMembers : RawTech → Type 0
RecordedPartsHaveMembers raw =
    IsWellFormed raw → (exts : List CellExt) (tree : NamedTree) (nodes : List NodeRec) → IsClean raw (layouts_of tree)
    → AreNodeRecords raw (own_body tree).layout (own_body tree).labels nodes → HaveTreeRecords raw exts (named_elements_in tree)
    → PartsHaveMembers raw tree

-- Where each part has members, two members of one group are joined by members each of which meets the next in a region of the restricted
-- flat layout.
abbrev pub MembersAreJoinedByRegions : RawTech → Type 0
MembersAreJoinedByRegions raw =
    IsWellFormed raw → KeepsRules raw → (within : Square → Bool) (tree : NamedTree) (others : List SetLayout) → IsRestrictedTo raw within tree others
    → PartsHaveMembers raw tree
    → (a b : Place) (first second : List ℕ) → IsMemberAt raw tree a first → IsMemberAt raw tree b second → AreOneGroup raw tree a b
    → Chain (MeetInRegion raw tree others) first second

-- What links of the restricted flat layout join is of one group.
abbrev pub RegionsAreInGroups : RawTech → Type 0
RegionsAreInGroups raw =
    (within : Square → Bool) (tree : NamedTree) (others : List SetLayout) → IsRestriction (Passes within) (tree_parts raw tree) others
    → (a b : Place) → AreOneNode (connects raw) (parts_layout raw others) a b → AreOneGroup raw tree a b

-- The member has a place of the group in one of these squares.
pub record HasPlaceWithin (raw : RawTech) (within : Square → Bool) (tree : NamedTree) (place : Place) (member : List ℕ) : Type 0 where
  pub other : Place
  pub together : AreOneGroup raw tree place other
  pub has : IsMemberAt raw tree other member
  pub inside : Passes within other.square

-- Each member of a group of two or more has a place of it in the squares at which parts meet.
abbrev pub MembersOfLargerGroupsAreWithin : RawTech → Type 0
MembersOfLargerGroupsAreWithin raw =
    IsWellFormed raw → KeepsRules raw → (within : Square → Bool) (tree : NamedTree) (others : List SetLayout) → IsRestrictedTo raw within tree others
    → (place : Place) (first second : List ℕ) → IsMemberOf raw tree place first → IsMemberOf raw tree place second → first ≢ second
    → HasPlaceWithin raw within tree place first
