-- The merges of a group, and of one group behind the other.
use Rattle.piece_groups.proofs.Common.{◌≡◌, ◌<◌, ◌+◌, ℕ, Bool, true, false, cond, List, [], ◌∷◌, ◌++◌, map, filter, length, get_or, refl, sym, ◌∙◌}
use Rattle.piece_groups.proofs.Common.{ap, pos, flat_map, range_with_len, cond-true, cond-false, get_or_default, Class, MergeRec, MergeRow}
use Rattle.piece_groups.proofs.Common.{AddsToRows, add_none, add_same, add_then, Adjustment, merge_of, zero_adjustment, Member, name_at, mark_at}
use Rattle.piece_groups.proofs.Common.{names_behind, sum_at, groups_before, AddsMerges, adjustment_of}
use Rattle.std.proofs.lemmas.List.{append-nil, map-append}
use Rattle.std.proofs.lemmas.List.Concat.{flat_map-append}
use Rattle.std.proofs.lemmas.List.Elements.{filter-append}
use Rattle.finite_sets.proofs.Searches.{range_one_more}
use Rattle.meeting_sums.specs.TreeRecords.Merges.{MemberGroup, group_merges, is_zero_adjustment}
use Rattle.meeting_sums.specs.declared.sums.MeetingSum.{MeetingSum}
use Rattle.piece_groups.specs.steps.Groups.{merges_behind, is_first, group_at}
use Rattle.piece_groups.proofs.WalkLaws.{IsNext, mark_read}

-- the sum that is read at a member's mark
pub sum_read : (members : List Member) (sums : List MeetingSum) (place : ℕ) (member : Member) (sum : MeetingSum) → place < length members
    → mark_at members place < length sums → member ≡ get_or members place member → sum ≡ get_or sums member.mark sum
    → sum ≡ sum_at sums (mark_at members place)
sum_read members sums place member sum within marked is_member is_sum =
    is_sum ∙ ap (λ (mark : ℕ). get_or sums mark sum) (mark_read members place member within is_member)
    ∙ get_or_default sums (mark_at members place) sum (record { cap = pos 0; measures = [] }) marked

module _ (members : List Member) (sums : List MeetingSum) (nothing : MeetingSum) (first : ℕ) (old : List MergeRow) where
  abbrev added : Adjustment
  added = adjustment_of (sum_at sums (mark_at members first))

  -- the merges of the group, whoever stands behind its first member
  abbrev merges_with : List Class → List (List ℕ) → List MergeRec
  merges_with classes behind = flat_map (group_merges classes) (record { members = name_at members first ∷ behind; adjustment = added } ∷ [])

  abbrev alone : MergeRec
  alone = merge_of (name_at members first) (name_at members first) added

  -- a group of one member
  one_member : (classes : List Class) → names_behind members first ≡ []
      → flat_map (group_merges classes) (group_at members sums first ∷ []) ≡ cond (is_zero_adjustment added) [] (alone ∷ [])
  one_member classes none = ap (merges_with classes) none ∙ append-nil (cond (is_zero_adjustment added) [] (alone ∷ []))

  pub adds_merge : (name : List ℕ) (sum : MeetingSum) (merge : MergeRec) (new : List MergeRow) → names_behind members first ≡ []
      → name ≡ name_at members first → sum ≡ sum_at sums (mark_at members first) → is_zero_adjustment (adjustment_of sum) ≡ false
      → merge ≡ merge_of name name (adjustment_of sum) → AddsToRows (merge ∷ []) old new → AddsMerges nothing (group_at members sums first ∷ []) old new
  adds_merge name sum merge new none is_name is_sum some is_merge is_new = record {
    are = λ classes is_nothing.
        let made : merge ≡ alone = is_merge ∙ (λ i. merge_of (is_name i) (is_name i) (adjustment_of (is_sum i))) in
        let not_zero : is_zero_adjustment added ≡ false = ap (λ (s : MeetingSum). is_zero_adjustment (adjustment_of s)) (sym is_sum) ∙ some in
        add_same (merge ∷ []) (merges_with classes (names_behind members first)) old new
        ((λ i. made i ∷ []) ∙ sym (one_member classes none ∙ cond-false (is_zero_adjustment added) [] (alone ∷ []) not_zero)) is_new;
  }

  pub adds_none : (sum : MeetingSum) → names_behind members first ≡ [] → sum ≡ sum_at sums (mark_at members first)
      → is_zero_adjustment (adjustment_of sum) ≡ true → AddsMerges nothing (group_at members sums first ∷ []) old old
  adds_none sum none is_sum all_zero = record {
    are = λ classes is_nothing.
        let is_zero : is_zero_adjustment added ≡ true = ap (λ (s : MeetingSum). is_zero_adjustment (adjustment_of s)) (sym is_sum) ∙ all_zero in
        add_same [] (merges_with classes (names_behind members first)) old old
        (sym (one_member classes none ∙ cond-true (is_zero_adjustment added) [] (alone ∷ []) is_zero)) (add_none old);
  }

  -- a group of more
  pub adds_more : (name other : List ℕ) (sum : MeetingSum) (merge : MergeRec) (second : ℕ) (middle new : List MergeRow) → IsNext members first second
      → name ≡ name_at members first → other ≡ name_at members second → sum ≡ sum_at sums (mark_at members first)
      → merge ≡ merge_of name other (adjustment_of sum) → AddsToRows (merge ∷ []) old middle
      → AddsToRows (merges_behind members (adjustment_of nothing) first second) middle new → AddsMerges nothing (group_at members sums first ∷ []) old new
  adds_more name other sum merge second middle new next is_name is_other is_sum is_merge is_middle is_new = record {
    are = λ classes is_nothing.
        let one = merge_of (name_at members first) (name_at members second) added in
        let others = merges_behind members (zero_adjustment classes) first second in
        let made : merge ≡ one = is_merge ∙ (λ i. merge_of (is_name i) (is_other i) (adjustment_of (is_sum i))) in
        let all : merge ∷ merges_behind members (adjustment_of nothing) first second ≡ one ∷ others =
        λ i. made i ∷ merges_behind members (is_nothing i) first second in
        add_same (merge ∷ merges_behind members (adjustment_of nothing) first second) (merges_with classes (names_behind members first)) old new
        (all ∙ sym (append-nil (one ∷ others)) ∙ ap (merges_with classes) (sym next.names))
        (add_then (merge ∷ []) (merges_behind members (adjustment_of nothing) first second) old middle new is_middle is_new);
  }

-- the groups before the next place
groups_more : (members : List Member) (sums : List MeetingSum) (place : ℕ)
    → groups_before members sums (place + 1) ≡ groups_before members sums place ++ cond (is_first members place) (group_at members sums place ∷ []) []
groups_more members sums place =
    ap (λ (places : List ℕ). map (group_at members sums) (filter (is_first members) places)) (range_one_more place)
    ∙ ap (map (group_at members sums)) (filter-append (is_first members) (range_with_len 0 place) (place ∷ []))
    ∙ map-append (group_at members sums) (filter (is_first members) (range_with_len 0 place)) (filter (is_first members) (place ∷ []))
    ∙ ap (λ (groups : List MemberGroup). groups_before members sums place ++ groups) (last (is_first members place)) where
      last : (kept : Bool) → map (group_at members sums) (cond kept (place ∷ []) []) ≡ cond kept (group_at members sums place ∷ []) []
      last true = refl
      last false = refl

-- behind the merges of the groups before stand those of the group that begins here
pub groups_added : (members : List Member) (sums : List MeetingSum) (nothing : MeetingSum) (place : ℕ) (rows later : List MergeRow)
    → is_first members place ≡ true → AddsMerges nothing (group_at members sums place ∷ []) rows later
    → AddsMerges nothing (groups_before members sums place) [] rows → AddsMerges nothing (groups_before members sums (place + 1)) [] later
groups_added members sums nothing place rows later first added so_far = record {
  are = λ classes is_nothing.
      let before = groups_before members sums place in
      let here = group_at members sums place ∷ [] in
      let merges_of = flat_map (group_merges classes) in
      add_same (merges_of before ++ merges_of here) (merges_of (groups_before members sums (place + 1))) [] later
      (sym (flat_map-append (group_merges classes) before here)
      ∙ ap merges_of (sym (groups_more members sums place
      ∙ ap (λ (groups : List MemberGroup). before ++ groups) (cond-true (is_first members place) here [] first))))
      (add_then (merges_of before) (merges_of here) [] rows later (so_far.are classes is_nothing) (added.are classes is_nothing));
}

-- where none begins here, nothing is added
pub groups_kept : (members : List Member) (sums : List MeetingSum) (nothing : MeetingSum) (place : ℕ) (rows : List MergeRow)
    → is_first members place ≡ false → AddsMerges nothing (groups_before members sums place) [] rows
    → AddsMerges nothing (groups_before members sums (place + 1)) [] rows
groups_kept members sums nothing place rows later so_far = record {
  are = λ classes is_nothing.
      let before = groups_before members sums place in
      let merges_of = flat_map (group_merges classes) in
      add_same (merges_of before) (merges_of (groups_before members sums (place + 1))) [] rows
      (ap merges_of (sym (groups_more members sums place
      ∙ ap (λ (groups : List MemberGroup). before ++ groups) (cond-false (is_first members place) (group_at members sums place ∷ []) [] later)
      ∙ append-nil before)))
      (so_far.are classes is_nothing);
}
