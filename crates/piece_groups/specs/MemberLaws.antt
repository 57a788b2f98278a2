-- Classes of members that meet in regions are the groups of a clean cell: the law, as a statement.
use Rattle.std.specs.Prelude.{◌≡◌, ◌↔◌, ℕ, Bool, Some, List, length, slice_get, slice_index}
use Rattle.geo_core.specs.declared.squares.Square.{Square}
use Rattle.tech_model.specs.declared.raw.RawTech.{RawTech}
use Rattle.tech_model.specs.Rules.{KeepsRules}
use Rattle.tech_model.specs.Types.{connects}
use Rattle.tech_model.specs.WellFormed.{IsWellFormed}
use Rattle.group_meetings.specs.LayoutModel.declared.region_tiles.RegionTile.{RegionTile}
use Rattle.group_meetings.specs.LayoutModel.Places.{Place}
use Rattle.group_meetings.specs.LayoutModel.RegionTiles.{AreRegions, LiesIn}
use Rattle.meeting_sums.specs.Offences.declared.plane_stacks.PlaneStack.{PlaneStack}
use Rattle.meeting_sums.specs.Offences.Offences.{SetLayout}
use Rattle.meeting_sums.specs.Offences.PlaneStacks.{ArePlaneStacks}
use Rattle.group_meetings.specs.TreeRecords.NamedTrees.{NamedTree}
use Rattle.group_meetings.specs.TreeRecords.MemberGroups.{AreOneGroup, IsMemberAt, IsMemberOf}
use Rattle.group_meetings.specs.TreeNames.CleanTrees.{IsCleanTree}
use Rattle.group_meetings.specs.MeetingLaws.PartLayouts.{parts_layout}
use Rattle.group_meetings.specs.Laws.{IsRestrictedTo}
use Rattle.group_meetings.specs.Members.{PartsHaveMembers}
use Rattle.piece_groups.specs.PieceMembers.{LiesInPiece, AreMembersInPieces}
use Rattle.piece_groups.specs.MemberMarks.{AreMemberMarks, mark_at}

-- A cell whose parts are restricted to the squares at which they meet, the pieces that these make, the names that are listed of the members
-- that stand in the pieces, the regions of the pieces' flat types, and the labels by which members and regions that stand together are marked.
pub record AreMarkedPieces (raw : RawTech) (within : Square → Bool) (tree : NamedTree) (others : List SetLayout) (pieces : List PlaneStack)
    (listed : List (List ℕ)) (pairs : List (ℕ × ℕ)) (tiles : List RegionTile) (count : ℕ) (labels : List ℕ) : Type 0 where
  pub clean : IsCleanTree raw tree
  pub members : PartsHaveMembers raw tree
  pub restricted : IsRestrictedTo raw within tree others
  pub stacks : ArePlaneStacks raw others pieces
  pub names : AreMembersInPieces raw tree pieces listed pairs
  -- the tile of each piece stands at its index
  pub one_each : (index : ℕ) (place : Place) → LiesInPiece pieces index place ↔ LiesIn tiles index place
  pub regions : AreRegions (connects raw) (parts_layout raw others) tiles count
  pub marks : AreMemberMarks (length listed) tiles count pairs labels

-- What marks tell of groups.
pub record MarksTellGroups (raw : RawTech) (tree : NamedTree) (stacks : List PlaneStack) (names : List (List ℕ)) (tiles : List RegionTile)
    (marks : List ℕ) : Type 0 where
  -- the members of the group of a place at which a listed member stands are the listed members with that one's mark
  pub members : (number : ℕ) (name : List ℕ) (place : Place) → slice_get names number ≡ Some name → IsMemberAt raw tree place name
      → (other : List ℕ)
      → IsMemberOf raw tree place other ↔ ((next : ℕ) × (slice_get names next ≡ Some other) × (slice_index marks next ≡ slice_index marks number))
  -- a piece has the mark of a listed member exactly where its places are of the member's group
  pub pieces : (number index : ℕ) (name : List ℕ) (place here : Place) → slice_get names number ≡ Some name → IsMemberAt raw tree place name
      → LiesInPiece stacks index here
      → (mark_at (length names) tiles marks index ≡ slice_index marks number) ↔ AreOneGroup raw tree place here

-- The marks of members and regions that stand together tell the groups of a clean cell.
abbrev pub ClassesAreGroups : RawTech → Type 0
ClassesAreGroups raw =
    IsWellFormed raw → KeepsRules raw → (within : Square → Bool) (tree : NamedTree) (others : List SetLayout) (stacks : List PlaneStack)
    (names : List (List ℕ)) (pairs : List (ℕ × ℕ)) (tiles : List RegionTile) (count : ℕ) (marks : List ℕ)
    → AreMarkedPieces raw within tree others stacks names pairs tiles count marks → MarksTellGroups raw tree stacks names tiles marks
