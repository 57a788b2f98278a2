-- Names that are asked for in a row, and strips.
use Rattle.element_index.proofs.Common.{◌≡◌, ℕ, ◌<◌, ℤ, pos, ◌+ℤ◌, ◌-ℤ◌, ◌*ℤ◌, ◌≤ℤ◌, ◌<ℤ◌, Bool, true, false, List, [], ◌∷◌, ◌++◌, inl, inr, IsTrue}
use Rattle.element_index.proofs.Common.{refl, sym, ◌∙◌, subst, arith, slice_get, Some, int_lt, w32, FitsSigned, list_all, range_with_len, bytes_eq}
use Rattle.element_index.proofs.Common.{cases_Bool, ints, bytes_eq-Decides, In, In-index, In-get_or, Rect, Square, common_rect, corner_of, Covers}
use Rattle.element_index.proofs.Common.{indices, covers_first, covers_second, covers_both, covers_is_proper, corner_covered, square_is, IsMeeting}
use Rattle.element_index.proofs.Common.{MissesAll, decimal, is_use_id, indexed_name, ROWS_OF_AN_ID, UseElements, names_in, is_among, ArePartsOf}
use Rattle.element_index.proofs.Common.{one_square, raised, lowered, IsNameAt}
use Rattle.std.proofs.lemmas.List.FromFn.{length-range_with_len, get_or-range_with_len}
use Rattle.finite_sets.specs.Range.{extent}
use Rattle.finite_sets.proofs.Ranges.{extent_up}
use Rattle.finite_sets.proofs.Searches.{list_all-from_In, list_all-In, list_any-of_In, In-from_list_any}
use Rattle.geo_core.specs.Strips.{IsInUnion, IsStrips}
use Rattle.ext_model.proofs.IndexedNames.{id_plain}
use Rattle.element_index.specs.Holds.{IsSquareOf, Holds, HoldsStrips}
use Rattle.element_index.proofs.IdLaws.{only_cut, indices_plain, there_In, whole_or_indexed}
use Rattle.element_index.proofs.SquareLaws.{short_low, short_high, short_from, one_square_of}
use Rattle.element_index.proofs.BlockLaws.{one_covered, one_covers, indexed_block}
use Rattle.element_index.proofs.HoldLaws.{lowered-lifted, covers_lowered, covers_lifted, share_from_square, holds_same}

-- ---- strips of what an index holds

-- what strips cover is what they are strips of
strips_cover : (rects strips : List Rect) → IsStrips (IsInUnion rects) strips → (square : Square) → IsInUnion strips square → IsInUnion rects square
strips_cover rects strips are square (strip, union) =
    let covers = union.1 in
    let run = (are.each strip union.0).runs square.y covers.above_ylo covers.below_yhi in
    run.within square.x covers.right_of_xlo covers.left_of_xhi

-- the strips of the rectangles hold what those do, and have nothing on their right
pub strips_hold : (ids : List (List ℕ)) (uses : List UseElements) (rects strips : List Rect) → IsStrips (IsInUnion rects) strips
    → Holds ids uses rects → HoldsStrips ids uses strips
strips_hold ids uses rects strips are holds = record {
  holds = holds_same ids uses rects strips are.whole (strips_cover rects strips are) holds;
  whole = λ strip here y low high union.
      ((are.each strip here).runs y low high).right (strips_cover rects strips are (record { x = strip.xhi; y = y }) union);
}

-- ---- rows of names

-- the name of the row with this number
abbrev pub row_name : List ℕ → ℤ → ℤ → ℕ → List ℕ
row_name id lo j k = indexed_name id (lo +ℤ pos k) j

-- All names of the row stand among those.
pub record HasRow (names : List (List ℕ)) (id : List ℕ) (lo hi j : ℤ) : Type 0 where
  pub each : (k : ℕ) → k < indices lo hi → In (row_name id lo j k) names

abbrev pub row_test : List (List ℕ) → List ℕ → ℤ → ℤ → ℕ → Bool
row_test names id lo j k = is_among (row_name id lo j k) names

-- the test of a row
pub row-tested : (names : List (List ℕ)) (id : List ℕ) (lo hi j : ℤ) → HasRow names id lo hi j
    → list_all (row_test names id lo j) (range_with_len 0 (indices lo hi)) ≡ true
row-tested names id lo hi j has =
    list_all-from_In (row_test names id lo j) (range_with_len 0 (indices lo hi)) (λ k here.
    let place = In-index k (range_with_len 0 (indices lo hi)) here in
    let below : place.0 < indices lo hi = omega (arith, place.1.0, length-range_with_len 0 (indices lo hi)) in
    let is : k ≡ place.0 = sym (place.1.1 0) ∙ (get_or-range_with_len 0 (indices lo hi) place.0 0 below ∙ omega arith) in
    list_any-of_In bytes_eq bytes_eq-Decides (row_name id lo j k) names (has.each k (subst (λ (m : ℕ). m < indices lo hi) (sym is) below)))

-- what passes it is there
row_from_test : (names : List (List ℕ)) (id : List ℕ) (lo hi j : ℤ) → list_all (row_test names id lo j) (range_with_len 0 (indices lo hi)) ≡ true
    → HasRow names id lo hi j
row_from_test names id lo hi j test = record {
  each = λ k below.
      let here : In k (range_with_len 0 (indices lo hi)) =
      subst (λ (m : ℕ). In m (range_with_len 0 (indices lo hi))) (get_or-range_with_len 0 (indices lo hi) k 0 below ∙ omega arith)
      (In-get_or (range_with_len 0 (indices lo hi)) k 0 (omega (arith, below, length-range_with_len 0 (indices lo hi)))) in
      In-from_list_any bytes_eq bytes_eq-Decides (row_name id lo j k) names
      (list_all-In (row_test names id lo j) (range_with_len 0 (indices lo hi)) k test here);
}

-- a row of which some name is missing does not pass
pub row-failed : (names : List (List ℕ)) (id : List ℕ) (lo hi j : ℤ) → (HasRow names id lo hi j → ⊥)
    → list_all (row_test names id lo j) (range_with_len 0 (indices lo hi)) ≡ false
row-failed names id lo hi j none = elim (cases_Bool (list_all (row_test names id lo j) (range_with_len 0 (indices lo hi)))) [
  | inl passes ↦ absurd (none (row_from_test names id lo hi j passes))
  | inr fails ↦ fails
]

-- the first name of a row
first_named : (names : List (List ℕ)) (id : List ℕ) (lo hi j : ℤ) → HasRow names id lo hi j → In (indexed_name id lo j) names
first_named names id lo hi j has =
    let same : lo +ℤ pos 0 ≡ lo = omega (arith, ints) in
    subst (λ (i : ℤ). In (indexed_name id i j) names) same (has.each 0 (omega arith))

-- a name between the ends of the row is one of it
between_named : (names : List (List ℕ)) (id : List ℕ) (lo hi j i : ℤ) → HasRow names id lo hi j → lo ≤ℤ i → i ≤ℤ hi → In (indexed_name id i j) names
between_named names id lo hi j i has low high =
    let ahead = extent_up lo i low in
    let below : extent lo i < indices lo hi = step_within lo hi i (extent lo i) ahead high in
    subst (λ (z : ℤ). In (indexed_name id z j) names) ahead (has.each (extent lo i) below)
  where
    step_within : (lo hi i : ℤ) (k : ℕ) → lo +ℤ pos k ≡ i → i ≤ℤ hi → k < indices lo hi
    step_within lo hi i k at within = grind (arith, ints)

-- so many steps from the first end stay before the last
step_before : (lo hi : ℤ) (k : ℕ) → lo ≤ℤ hi → k < indices lo hi → (lo +ℤ pos k) ≤ℤ hi
step_before lo hi k ordered below = grind (arith, ints)

module _ (ids : List (List ℕ)) (uses : List UseElements) (strips : List Rect) (holds : HoldsStrips ids uses strips) (id : List ℕ) (lo hi j : ℤ)
    (lo_fits : FitsSigned w32 lo) (hi_fits : FitsSigned w32 hi) (j_fits : FitsSigned w32 j) (ordered : lo ≤ℤ hi) where
  abbrev names : List (List ℕ)
  names = names_in uses

  -- each index of the row is of 32 bits
  index_fits : (i : ℤ) → lo ≤ℤ i → i ≤ℤ hi → FitsSigned w32 i
  index_fits i low high =
      let a = short_low lo lo_fits in
      let b = short_high hi hi_fits in
      short_from i (omega (arith, ints)) (omega (arith, ints))

  -- a row of an id that is not known is not there
  pub no_row : (In id ids → ⊥) → HasRow names id lo hi j → ⊥
  no_row unknown has =
      let square = holds.holds.covered (indexed_name id lo j) (first_named names id lo hi j has) in
      let at = square.1.1 in
      elim at.spot [
        | inl indexed ↦ (
            let same : id ≡ at.id =
            only_cut 91 id at.id (decimal lo ++ 44 ∷ (decimal j ++ 93 ∷ []))
            (decimal (lowered square.0 at.number).x ++ 44 ∷ (decimal (lowered square.0 at.number).y ++ 93 ∷ []))
            (id_plain at.id at.id_form) (indices_plain (lowered square.0 at.number).x (lowered square.0 at.number).y) indexed.text in
            unknown (subst (λ (one : List ℕ). In one ids) (sym same) (there_In ids at.id at.number at.there)))
        | inr whole ↦ whole_or_indexed at.id id lo j (id_plain at.id at.id_form) (sym whole.text)
      ]

  module _ (number : ℕ) (there : slice_get ids number ≡ Some id) where
    abbrev up : ℤ
    up = pos number *ℤ ROWS_OF_AN_ID

    form : IsTrue (is_use_id id)
    form = holds.holds.forms id (there_In ids id number there)

    -- a square of the row is covered where its name is known
    covered_where_known : (i : ℤ) → lo ≤ℤ i → i ≤ℤ hi → In (indexed_name id i j) names → IsInUnion strips (record { x = i; y = j +ℤ up })
    covered_where_known i low high here =
        let square = holds.holds.covered (indexed_name id i j) here in
        let mine : IsSquareOf ids (indexed_name id i j) (record { x = i; y = j +ℤ up }) = record {
          number = number;
          id = id;
          there = there;
          id_form = form;
          spot = subst (IsNameAt id (indexed_name id i j)) (sym (lowered-lifted (record { x = i; y = j }) number))
              (inl (record { i_fits = index_fits i low high; j_fits = j_fits; text = refl }));
        } in
        subst (IsInUnion strips) (one_square_of ids (indexed_name id i j) square.0 (record { x = i; y = j +ℤ up }) holds.holds.once square.1.1 mine)
        square.1.0

    -- and known where its square is covered
    known_where_covered : (i : ℤ) → lo ≤ℤ i → i ≤ℤ hi → IsInUnion strips (record { x = i; y = j +ℤ up }) → In (indexed_name id i j) names
    known_where_covered i low high union =
        let parts : ArePartsOf (indexed_name id i j) id i j =
        record { id_form = form; i_fits = index_fits i low high; j_fits = j_fits; text = refl } in
        let share =
        share_from_square ids uses strips holds.holds (indexed_name id i j ∷ []) id (one_square i j) number (record { x = i; y = j +ℤ up }) there
        (indexed_block (indexed_name id i j) id i j parts) union
        (covers_lifted (one_square i j) number (record { x = i; y = j }) (one_covered i j)) in
        only_shared share.name share.here share.there
      where
        only_shared : (name : List ℕ) → In name (indexed_name id i j ∷ []) → In name names → In (indexed_name id i j) names
        only_shared name (inl same) known = subst (λ (one : List ℕ). In one names) (sym same) known
        only_shared name (inr none) known = absurd none

    -- The strip covers the first square of the row.
    record HasFirst (strip : Rect) : Type 0 where
      held : In strip strips
      covers : Covers strip (record { x = lo; y = j +ℤ up })

    first_of_row : (strip : Rect) → IsMeeting strips (raised (one_square lo j) number) strip → HasFirst strip
    first_of_row strip meeting =
        let area = raised (one_square lo j) number in
        let corner = corner_of (common_rect strip area) in
        let covered = corner_covered (common_rect strip area) meeting.meets in
        let at = one_covers lo j (lowered corner number) (covers_lowered (one_square lo j) number corner (covers_second strip area corner covered)) in
        let row : corner.y -ℤ up ≡ j = at.1 in
        let same : corner ≡ record { x = lo; y = j +ℤ up } = square_is corner (record { x = lo; y = j +ℤ up }) at.0 (omega (arith, ints, row)) in
        record { held = meeting.there; covers = subst (Covers strip) same (covers_first strip area corner covered) }

    -- where a strip goes from the first square of the row past the last, the row is there
    pub row_there : (strip : Rect) → IsMeeting strips (raised (one_square lo j) number) strip → hi <ℤ strip.xhi → HasRow names id lo hi j
    row_there strip meeting past =
        let first = first_of_row strip meeting in
        let left : strip.xlo ≤ℤ lo = first.covers.right_of_xlo in
        record {
          each = λ k below.
              let before = step_before lo hi k ordered below in
              known_where_covered (lo +ℤ pos k) (omega (arith, ints)) before (
                strip,
                (
                  first.held,
                  record {
                    right_of_xlo = omega (arith, ints);
                    left_of_xhi = omega (arith, ints);
                    above_ylo = first.covers.above_ylo;
                    below_yhi = first.covers.below_yhi;
                  },
                ),
              );
        }

    -- where it ends before, the name behind it is missing
    pub row_ends : (strip : Rect) → IsMeeting strips (raised (one_square lo j) number) strip → strip.xhi ≤ℤ hi → HasRow names id lo hi j → ⊥
    row_ends strip meeting ends has =
        let first = first_of_row strip meeting in
        let right : lo <ℤ strip.xhi = first.covers.left_of_xhi in
        let low : lo ≤ℤ strip.xhi = omega (arith, ints) in
        holds.whole strip first.held (j +ℤ up) first.covers.above_ylo first.covers.below_yhi
        (covered_where_known strip.xhi low ends (between_named names id lo hi j strip.xhi has low ends))

    -- where no strip has the first square, its name is missing
    pub row_missed : MissesAll strips (raised (one_square lo j) number) → HasRow names id lo hi j → ⊥
    row_missed missed has =
        let covered = covered_where_known lo (omega (arith, ints)) ordered (first_named names id lo hi j has) in
        let area = raised (one_square lo j) number in
        let square : Square = record { x = lo; y = j +ℤ up } in
        let mine : Covers area square = covers_lifted (one_square lo j) number (record { x = lo; y = j }) (one_covered lo j) in
        missed covered.0 covered.1.0
        (covers_is_proper (common_rect covered.0 area) square (covers_both covered.0 area square covered.1.1 mine))

    -- so where the strip ends tells whether the row is there
    pub row_told : (strip : Rect) → IsMeeting strips (raised (one_square lo j) number) strip
        → int_lt hi strip.xhi ≡ list_all (row_test names id lo j) (range_with_len 0 (indices lo hi))
    row_told strip meeting = elim (cases_Bool (int_lt hi strip.xhi)) [
      | inl past ↦ past ∙ sym (row-tested names id lo hi j (row_there strip meeting (below_from_test hi strip.xhi past)))
      | inr ends ↦ ends ∙ sym (row-failed names id lo hi j (row_ends strip meeting (above_from_test hi strip.xhi ends)))
    ]
      where
        below_from_test : (a b : ℤ) → int_lt a b ≡ true → a <ℤ b
        below_from_test a b test = grind (arith, ints)

        above_from_test : (a b : ℤ) → int_lt a b ≡ false → b ≤ℤ a
        above_from_test a b test = grind (arith, ints)
