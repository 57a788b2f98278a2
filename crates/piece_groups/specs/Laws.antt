-- The groups that are found where the parts of a clean cell meet are those of its record: the law, as a statement.
use Rattle.std.specs.Prelude.{◌≡◌, ℕ, Bool, List, length, map}
use Rattle.std.specs.List.{flat_map, range_with_len}
use Rattle.geo_core.specs.declared.squares.Rect.{Rect}
use Rattle.geo_core.specs.declared.squares.Square.{Square}
use Rattle.geo_core.specs.Covering.{Covers}
use Rattle.tech_model.specs.declared.raw.RawTech.{RawTech}
use Rattle.tech_model.specs.Rules.{KeepsRules}
use Rattle.tech_model.specs.WellFormed.{IsWellFormed}
use Rattle.group_meetings.specs.LayoutModel.declared.region_tiles.RegionTile.{RegionTile}
use Rattle.group_meetings.specs.LayoutModel.Layouts.{IsMaterial}
use Rattle.group_meetings.specs.LayoutModel.Places.{Place}
use Rattle.group_meetings.specs.LayoutModel.Technologies.{rules_of}
use Rattle.meeting_sums.specs.Offences.declared.plane_stacks.PlaneStack.{PlaneStack}
use Rattle.meeting_sums.specs.Offences.Offences.{SetLayout}
use Rattle.ext_model.specs.declared.records.CellExt.{CellExt}
use Rattle.ext_model.specs.declared.records.MergeRec.{MergeRec}
use Rattle.ext_model.specs.declared.records.NodeRec.{NodeRec}
use Rattle.group_meetings.specs.CellNodes.NodeRecords.{AreNodeRecords}
use Rattle.piece_groups.specs.TreeRecords.NamedTrees.{NamedTree, named_elements_in, own_body}
use Rattle.piece_groups.specs.TreeRecords.Merges.{AreGroupMerges, MemberGroup, group_merges}
use Rattle.piece_groups.specs.TreeRecords.TreeRecords.{HaveTreeRecords}
use Rattle.piece_groups.specs.MeetingSums.declared.sums.MeetingSum.{MeetingSum}
use Rattle.piece_groups.specs.MeetingSums.Sums.{AreMeetingSums}
use Rattle.piece_groups.specs.MarkedGroups.{AreMarkedGroups}
use Rattle.piece_groups.specs.MemberLaws.{AreMarkedPieces}
use Rattle.piece_groups.specs.MemberMarks.{mark_at}

-- the mark of each piece
abbrev pub piece_marks : ℕ → List PlaneStack → List RegionTile → List ℕ → List ℕ
piece_marks members stacks tiles marks = map (mark_at members tiles marks) (range_with_len 0 (length stacks))

-- The nodes of the cell's own layout and the cells of its elements have records. An area holds all material of the own layout, which the
-- records of nodes do not tell in a technology without classes.
pub record HasRecordsBelow (raw : RawTech) (tree : NamedTree) : Type 0 where
  pub area : Rect
  pub inside : (place : Place) → IsMaterial (own_body tree).layout place → Covers area place.square
  pub nodes : List NodeRec
  pub own : AreNodeRecords raw (own_body tree).layout (own_body tree).labels nodes
  pub exts : List CellExt
  pub elements : HaveTreeRecords raw exts (named_elements_in tree)

-- Where the pieces of a clean cell are marked, what the marks count in the flat layout beyond the parts and the members of each mark are the
-- groups of the cell with their adjustments, and their merges are those of its record.
abbrev pub MarkedGroupsAreRecorded : RawTech → Type 0
MarkedGroupsAreRecorded raw =
    IsWellFormed raw → KeepsRules raw → (within : Square → Bool) (tree : NamedTree) (others : List SetLayout) (stacks : List PlaneStack)
    (names : List (List ℕ)) (pairs : List (ℕ × ℕ)) (tiles : List RegionTile) (count : ℕ) (marks : List ℕ) (sums : List MeetingSum)
    (groups : List MemberGroup) (merges : List MergeRec)
    → HasRecordsBelow raw tree → AreMarkedPieces raw within tree others stacks names pairs tiles count marks
    → AreMeetingSums raw others stacks (piece_marks (length names) stacks tiles marks) (length sums) sums
    → AreMarkedGroups names marks sums groups → merges ≡ flat_map (group_merges (rules_of raw).classes) groups
    → AreGroupMerges raw tree merges
