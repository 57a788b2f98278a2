-- The merges of the groups of members that have one mark.
use Rattle.std.specs.Prelude.{◌≡◌, ℕ, List}
use Rattle.std.specs.List.{flat_map}
use Rattle.tech_model.specs.declared.raw.RawTech.{RawTech}
use Rattle.group_meetings.specs.LayoutModel.Technologies.{rules_of}
use Rattle.ext_model.specs.declared.records.MergeRec.{MergeRec}
use Rattle.meeting_sums.specs.TreeRecords.Merges.{MemberGroup, group_merges}
use Rattle.meeting_sums.specs.declared.sums.MeetingSum.{MeetingSum}
use Rattle.piece_groups.specs.MarkedGroups.{AreMarkedGroups}

-- The merges are those of the groups that the marks make of the members, one group's behind the other's.
pub record AreMergesOfMarks (raw : RawTech) (names : List (List ℕ)) (marks : List ℕ) (sums : List MeetingSum) (merges : List MergeRec) : Type 0 where
  pub groups : List MemberGroup
  pub marked : AreMarkedGroups names marks sums groups
  pub are : merges ≡ flat_map (group_merges (rules_of raw).classes) groups
