-- The groups that begin with the first member of each mark are those of the marks.
use Rattle.piece_groups.proofs.Common.{◌≡◌, ◌<◌, ◌+◌, ℕ, zero, suc, Bool, true, false, List, [], ◌∷◌, Option, Some, None, filter, length, get_or}
use Rattle.piece_groups.proofs.Common.{inl, inr, refl, sym, ◌∙◌, ap, subst, arith, ◌==◌, All, pos, flat_map, range_with_len, eq-eqb, eqb-true}
use Rattle.piece_groups.proofs.Common.{get_or_default, same_Some, slice_get_within, slice_get-get_or, In, In-map, In-map_source, Pairwise}
use Rattle.piece_groups.proofs.Common.{Pairwise-from_AllPairs, AllPairs-from_Pairwise, All-from_In, RawTech, rules_of, MergeRec, MergeRow, AreRowsOf}
use Rattle.piece_groups.proofs.Common.{add_same, AreInNameOrder, IsNameBefore, zero_adjustment, Member, name_at, mark_at, names_with, names_behind}
use Rattle.piece_groups.proofs.Common.{sum_at, all_groups, AddsMerges, place_with, adjustment_of, HasMark, IsGroupOfMark, AreMarkedGroups, marks_of}
use Rattle.std.specs.Prelude.{slice_get, slice_index}
use Rattle.finite_sets.proofs.Members.{In-filter, In-filter_source, In-filter_passes}
use Rattle.finite_sets.proofs.Pairs.{Pairwise-map, Pairwise-filter, Pairwise-within}
use Rattle.tech_model.proofs.WellFormedLaws.{In-range_with_len, range_bounds}
use Rattle.merge_rows.proofs.AddedRows.{rows_made}
use Rattle.group_meetings.proofs.FullNames.ListOrders.{names_in_order}
use Rattle.meeting_sums.specs.TreeRecords.Merges.{MemberGroup, group_name, group_merges}
use Rattle.meeting_sums.specs.declared.sums.MeetingSum.{MeetingSum}
use Rattle.piece_groups.specs.steps.Groups.{is_first, group_at}
use Rattle.piece_groups.specs.MarkMerges.{AreMergesOfMarks}
use Rattle.piece_groups.specs.steps.Members.{AreMembers}
use Rattle.piece_groups.proofs.WalkLaws.{StandsFirst, first_or_none, stands_at, name_read, mark_within}

-- numbers in a row rise
range_rises : (a n : ℕ) → Pairwise ◌<◌ (range_with_len a n)
range_rises a zero = tt
range_rises a (suc n) = ((λ later here. let bounds = range_bounds (a + 1) n later here in omega (arith, bounds.0)), range_rises (a + 1) n)

module _ (names : List (List ℕ)) (marks : List ℕ) (sums : List MeetingSum) (members : List Member) (are : AreMembers names marks members)
    (within : (number : ℕ) → number < length names → slice_index marks number < length sums) where
  -- each member's mark has a sum
  mark_below : (member : Member) → In member members → member.mark < length sums
  mark_below member here =
      let at = are.each member here in
      subst (λ (mark : ℕ). mark < length sums) at.1.marked (within at.0 (slice_get_within names at.0 member.name.now at.1.named))

  pub all_below : All (λ member. member.mark < length sums) members
  all_below = All-from_In (λ member. member.mark < length sums) members mark_below

  abbrev has_mark : ℕ → Member → Bool
  has_mark mark member = member.mark == mark

  -- the names of the members with a mark are those of the mark
  name_of_mark : (mark : ℕ) (name : List ℕ) → In name (names_with members 0 mark) → HasMark names marks mark name
  name_of_mark mark name here =
      let found = In-map_source (λ (m : Member). m.name.now) name (filter (has_mark mark) members) here in
      let at = are.each found.0 (In-filter_source (has_mark mark) found.0 members found.1.0) in record {
        number = at.0;
        there = at.1.named ∙ ap Some found.1.1;
        marked = at.1.marked ∙ eqb-true found.0.mark mark (In-filter_passes (has_mark mark) found.0 members found.1.0);
      }

  -- and back
  mark_of_name : (mark : ℕ) (name : List ℕ) → HasMark names marks mark name → In name (names_with members 0 mark)
  mark_of_name mark name has =
      let found = are.whole has.number name has.there in
      let same : found.0.mark ≡ mark = sym found.2.marked ∙ has.marked in
      subst (λ (text : List ℕ). In text (names_with members 0 mark)) (same_Some found.0.name.now name (sym found.2.named ∙ has.there))
      (In-map (λ (m : Member). m.name.now) found.0 (filter (has_mark mark) members)
      (In-filter (has_mark mark) found.0 members found.1 (eq-eqb found.0.mark mark same)))

  -- these names stand in order
  names_with_in_order : (mark : ℕ) → AreInNameOrder (names_with members 0 mark)
  names_with_in_order mark =
      let before = λ (a b : Member). IsNameBefore a.name.now b.name.now in
      names_in_order (names_with members 0 mark) (Pairwise-map (λ (m : Member). m.name.now) IsNameBefore (filter (has_mark mark) members)
      (Pairwise-filter before (has_mark mark) members (Pairwise-from_AllPairs before members are.in_order)))

  -- the places of the members that are the first of their marks
  abbrev heads : List ℕ
  heads = filter (is_first members) (range_with_len 0 (length members))

  abbrev is_place : ℕ → Option ℕ → Bool
  is_place place found = elim found [ None ↦ false | Some first ↦ first == place ]

  head_within : (place : ℕ) → In place heads → place < length members
  head_within place here =
      let bounds = range_bounds 0 (length members) place (In-filter_source (is_first members) place (range_with_len 0 (length members)) here) in
      omega (arith, bounds.1)

  -- at such a place begin the names with its mark
  head_names : (place : ℕ) → In place heads → names_with members 0 (mark_at members place) ≡ name_at members place ∷ names_behind members place
  head_names place here =
      let mark = mark_at members place in
      let passes = In-filter_passes (is_first members) place (range_with_len 0 (length members)) here in
      elim (first_or_none members 0 mark) [
        | inl first ↦
            (let same : first.0 ≡ place = eqb-true first.0 place (sym (ap (is_place place) first.1.found) ∙ passes) in
            first.1.names ∙ ap (λ (p : ℕ). name_at members p ∷ names_with members (p + 1) mark) same)
        | inr none ↦ (let never : false ≡ true = sym (ap (is_place place) none.none) ∙ passes in absurd cc)
      ]

  -- the first place of a mark is such a place
  first_heads : (mark place : ℕ) → StandsFirst members 0 mark place → In place heads
  first_heads mark place first =
      In-filter (is_first members) place (range_with_len 0 (length members))
      (In-range_with_len 0 (length members) place (omega arith) (omega (arith, first.within)))
      (ap (is_place place) (ap (place_with (marks_of members) 0) first.marked ∙ first.found) ∙ eq-eqb place place refl)

  -- the group that begins there is that of the mark
  head_group : (place : ℕ) → In place heads → IsGroupOfMark names marks sums (mark_at members place) (group_at members sums place)
  head_group place here =
      let mark = mark_at members place in
      let all = head_names place here in record {
        some = λ none. cc;
        in_order = subst AreInNameOrder all (names_with_in_order mark);
        members = λ name. (
          (λ member. name_of_mark mark name (subst (λ (list : List (List ℕ)). In name list) (sym all) member)),
          (λ has. subst (λ (list : List (List ℕ)). In name list) all (mark_of_name mark name has)),
        );
        sum = sum_at sums mark;
        there = slice_get-get_or sums mark (record { cap = pos 0; measures = [] }) (mark_within members (length sums) place all_below (head_within place here));
        adjustment = refl;
      }

  -- each member is in a group
  member_grouped : (number : ℕ) (name : List ℕ) → slice_get names number ≡ Some name
      → (group : MemberGroup) × In group (all_groups members sums) × In name group.members
  member_grouped number name there =
      let mark = slice_index marks number in
      let named = mark_of_name mark name (record { number = number; there = there; marked = refl }) in
      elim (first_or_none members 0 mark) [
        | inl first ↦ (
          group_at members sums first.0,
          In-map (group_at members sums) first.0 heads (first_heads mark first.0 first.1),
          subst (λ (m : ℕ). In name (name_at members first.0 ∷ names_with members (first.0 + 1) m)) (sym first.1.marked)
              (subst (λ (list : List (List ℕ)). In name list) first.1.names named),
        )
        | inr none ↦ absurd (subst (λ (list : List (List ℕ)). In name list) none.names named)
      ]

  -- of two members the one at the earlier place has the earlier name
  earlier_name : (a b : ℕ) → a < b → b < length members → IsNameBefore (name_at members a) (name_at members b)
  earlier_name a b less below =
      let first = (stands_at members a (omega arith)).member in
      let read = λ (place : ℕ) (inside : place < length members).
      name_read members place (get_or members place first) inside (get_or_default members place first (get_or members place first) inside) in
      subst (λ (name : List ℕ). IsNameBefore name (name_at members b)) (read a (omega arith))
      (subst (λ (name : List ℕ). IsNameBefore (get_or members a first).name.now name) (read b below) (are.in_order a b first less below))

  pub groups_marked : AreMarkedGroups names marks sums (all_groups members sums)
  groups_marked = record {
    each = λ group here.
        let found = In-map_source (group_at members sums) group heads here in
        let mark = mark_at members found.0 in
        (mark, subst (λ (g : MemberGroup). IsGroupOfMark names marks sums mark g) found.1.1 (head_group found.0 found.1.0));
    whole = member_grouped;
    in_order =
        let before = λ (a b : MemberGroup). IsNameBefore (group_name a) (group_name b) in
        AllPairs-from_Pairwise before (all_groups members sums) (Pairwise-map (group_at members sums) before heads
        (Pairwise-within ◌<◌ (λ (a b : ℕ). IsNameBefore (name_at members a) (name_at members b)) heads
        (λ a b first second less. earlier_name a b less (head_within b second))
        (Pairwise-filter ◌<◌ (is_first members) (range_with_len 0 (length members)) (range_rises 0 (length members)))));
  }

-- the merges of these groups, of members that are linked, are those of the marks
pub merges_marked : (raw : RawTech) (names : List (List ℕ)) (marks : List ℕ) (sums : List MeetingSum) (members linked : List Member) (nothing : MeetingSum)
    → AreMembers names marks members → ((number : ℕ) → number < length names → slice_index marks number < length sums) → linked ≡ members
    → adjustment_of nothing ≡ zero_adjustment (rules_of raw).classes → (rows : List MergeRow)
    → AddsMerges nothing (all_groups linked sums) [] rows
    → (merges : List MergeRec) × AreMergesOfMarks raw names marks sums merges × AreRowsOf merges rows
merges_marked raw names marks sums members linked nothing are within same is_nothing rows adds =
    let merges_of = λ (list : List Member). flat_map (group_merges (rules_of raw).classes) (all_groups list sums) in (
      merges_of members,
      record { groups = all_groups members sums; marked = groups_marked names marks sums members are within; are = refl },
      rows_made (merges_of members) rows
          (add_same (merges_of linked) (merges_of members) [] rows (ap merges_of same) (adds.are (rules_of raw).classes is_nothing)),
    )
