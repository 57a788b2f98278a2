-- The merges of members that are marked by the regions of pieces in which they stand.
use Rattle.std.specs.Prelude.{◌<◌, List, length, All}
use Rattle.tech_model.specs.declared.raw.RawTech.{RawTech}
use Rattle.ext_model.specs.declared.records.MergeRec.{MergeRec}
use Rattle.flood_nodes.specs.declared.found.Regions.{Regions}
use Rattle.offences.specs.declared.plane_stacks.PlaneStack.{PlaneStack}
use Rattle.offences.specs.Offences.{SetLayout}
use Rattle.offences.specs.PlaneStacks.{ArePlaneStacks}
use Rattle.piece_groups.specs.MeetingSums.Sums.{AreMeetingSums}
use Rattle.piece_groups.specs.MarkMerges.{AreMergesOfMarks}
use Rattle.piece_groups.specs.MemberMarks.{AreMemberMarks}
use Rattle.piece_groups.specs.Laws.{piece_marks}
use Rattle.tile_members.specs.declared.members.TileMembers.{TileMembers}
use Rattle.tree_merges.specs.declared.merging.MarkedSums.{MarkedSums}
use Rattle.tree_merges.specs.steps.MemberPairs.{member_pairs}

-- Marks join each member with the regions of the pieces in which it stands, there are as many sums as marks may be, and each mark has the sum of its
-- pieces.
pub record AreMarkedSums (raw : RawTech) (pieces : List PlaneStack) (members : TileMembers) (regions : Regions) (found : MarkedSums) : Type 0 where
  pub are_marks : AreMemberMarks (length members.names.items) regions.tiles regions.count
      (member_pairs members.numbers.items pieces) found.marks.items
  pub below : All (λ mark. mark < length found.sums.items) found.marks.items
  pub are_sums : (parts : List SetLayout) → ArePlaneStacks raw parts pieces
      → AreMeetingSums raw parts pieces (piece_marks (length members.names.items) pieces regions.tiles found.marks.items)
      (length found.sums.items) found.sums.items

-- Members and regions have marks with sums, and these are the merges of the groups that the marks make.
pub record AreMarkedMerges (raw : RawTech) (pieces : List PlaneStack) (members : TileMembers) (regions : Regions) (merges : List MergeRec) : Type 0 where
  pub found : MarkedSums
  pub are : AreMarkedSums raw pieces members regions found
  pub are_merges : AreMergesOfMarks raw members.names.items found.marks.items found.sums.items merges
