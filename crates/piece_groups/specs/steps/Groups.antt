-- The groups that members in name order make by their marks.
use Rattle.std.specs.Prelude.{◌≡◌, ◌+◌, ◌==◌, ℕ, pos, Bool, false, None, Some, List, [], ◌∷◌, map, filter, drop, length, slice_index, slice_index_or}
use Rattle.std.specs.List.{flat_map, range_with_len}
use Rattle.group_meetings.specs.LayoutModel.Technologies.{Class}
use Rattle.ext_model.specs.declared.records.MergeRec.{MergeRec}
use Rattle.ext_model.specs.declared.arrays.MergeRow.{MergeRow}
use Rattle.merge_rows.specs.AddedMerges.{AddsToRows}
use Rattle.meeting_sums.specs.TreeRecords.Merges.{Adjustment, MemberGroup, group_merges, merge_of, zero_adjustment}
use Rattle.meeting_sums.specs.declared.sums.MeetingSum.{MeetingSum}
use Rattle.piece_groups.specs.declared.members.Member.{Member}
use Rattle.piece_groups.specs.steps.Links.{place_with}
use Rattle.piece_groups.specs.MarkedGroups.{adjustment_of}
use Rattle.piece_groups.specs.steps.Members.{names_of, marks_of}

-- the name of the member at a place
abbrev pub name_at : List Member → ℕ → List ℕ
name_at members place = slice_index_or (names_of members) place []

-- its mark
abbrev pub mark_at : List Member → ℕ → ℕ
mark_at members place = slice_index (marks_of members) place

-- the names of the members with the mark, from one place on
abbrev pub names_with : List Member → ℕ → ℕ → List (List ℕ)
names_with members from mark = names_of (filter (λ member. member.mark == mark) (drop from members))

-- the names of the members behind this one that have its mark
abbrev pub names_behind : List Member → ℕ → List (List ℕ)
names_behind members place = names_with members (place + 1) (mark_at members place)

-- the merges, each with this adjustment, of the first member with those behind the second
abbrev pub merges_behind : List Member → Adjustment → ℕ → ℕ → List MergeRec
merges_behind members adjustment first second = map (λ other. merge_of (name_at members first) other adjustment) (names_behind members second)

-- no member before this one has its mark
abbrev pub is_first : List Member → ℕ → Bool
is_first members place = elim (place_with (marks_of members) 0 (mark_at members place)) [ None ↦ false | Some first ↦ first == place ]

-- what is to be added to the group of a mark
abbrev pub sum_at : List MeetingSum → ℕ → MeetingSum
sum_at sums mark = slice_index_or sums mark (record { cap = pos 0; measures = [] })

-- the member's group, if it is the first of its mark
abbrev pub group_at : List Member → List MeetingSum → ℕ → MemberGroup
group_at members sums place = record {
  members = name_at members place ∷ names_behind members place;
  adjustment = adjustment_of (sum_at sums (mark_at members place));
}

-- the groups whose first members stand before a place
abbrev pub groups_before : List Member → List MeetingSum → ℕ → List MemberGroup
groups_before members sums end = map (group_at members sums) (filter (is_first members) (range_with_len 0 end))

-- the groups of all members
abbrev pub all_groups : List Member → List MeetingSum → List MemberGroup
all_groups members sums = groups_before members sums (length members)

-- The rows of the merges from before have become those of these and of the merges of the groups, where nothing is what adds nothing.
pub record AddsMerges (nothing : MeetingSum) (groups : List MemberGroup) (old new : List MergeRow) : Type 0 where
  pub are : (classes : List Class) → adjustment_of nothing ≡ zero_adjustment classes → AddsToRows (flat_map (group_merges classes) groups) old new
