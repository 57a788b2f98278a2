-- Groups of members that have one mark.
use Rattle.std.specs.Prelude.{◌≡◌, ◌≢◌, ◌↔◌, ℕ, Some, List, [], AllPairs, slice_get, slice_index}
use Rattle.finite_sets.specs.Lists.{In}
use Rattle.group_meetings.specs.CircuitModel.FullNames.{AreInNameOrder}
use Rattle.meeting_sums.specs.TreeRecords.FetRecords.{IsNameBefore}
use Rattle.meeting_sums.specs.TreeRecords.Merges.{Adjustment, MemberGroup, group_name}
use Rattle.meeting_sums.specs.declared.sums.MeetingSum.{MeetingSum}

-- the sum as an adjustment
abbrev pub adjustment_of : MeetingSum → Adjustment
adjustment_of sum = record { cap = sum.cap; measures = sum.measures }

-- The name is that of a member with this mark. The marks of members stand in the order of their names.
pub record HasMark (names : List (List ℕ)) (marks : List ℕ) (mark : ℕ) (name : List ℕ) : Type 0 where
  pub number : ℕ
  pub there : slice_get names number ≡ Some name
  pub marked : slice_index marks number ≡ mark

-- The group has all members with this mark, in name order, and what is said of the mark as its adjustment.
pub record IsGroupOfMark (names : List (List ℕ)) (marks : List ℕ) (sums : List MeetingSum) (mark : ℕ) (group : MemberGroup) : Type 0 where
  pub some : group.members ≢ []
  pub in_order : AreInNameOrder group.members
  pub members : (name : List ℕ) → In name group.members ↔ HasMark names marks mark name
  pub sum : MeetingSum
  pub there : slice_get sums mark ≡ Some sum
  pub adjustment : group.adjustment ≡ adjustment_of sum

-- These are the groups of all marks that members have, in the name order of their first members.
pub record AreMarkedGroups (names : List (List ℕ)) (marks : List ℕ) (sums : List MeetingSum) (groups : List MemberGroup) : Type 0 where
  pub each : (group : MemberGroup) → In group groups → (mark : ℕ) × IsGroupOfMark names marks sums mark group
  pub whole : (number : ℕ) (name : List ℕ) → slice_get names number ≡ Some name → (group : MemberGroup) × In group groups × In name group.members
  pub in_order : AllPairs (λ a b. IsNameBefore (group_name a) (group_name b)) groups
