-- The rows of a span, and the rows where they are replaced.
use Rattle.run_plane.proofs.Common.{◌≡◌, ◌⊎◌, inl, inr, ℕ, ◌+◌, ◌-◌, ◌≤◌, ℤ, pos, ◌≤ℤ◌, ◌<ℤ◌, ◌-ℤ◌, List, [], ◌∷◌, ◌++◌, length, take, drop, get_or}
use Rattle.run_plane.proofs.Common.{refl, sym, ◌∙◌, ap, subst, arith, ◌^◌, All, Range, cases_lt, ints, get_or-take, get_or-drop, length-take}
use Rattle.run_plane.proofs.Common.{length-drop, In, In-get_or, In-append_left, In-append_right, In-append_cases, at_most_or_greater, All-In}
use Rattle.run_plane.proofs.Common.{PLANE_EDGE, Square, Piece, IsNear, IsSmall, Covers, IsProper, AreSet, Run, Row, value_at, number_at, top_runs}
use Rattle.run_plane.proofs.Common.{edge, AreRising, AreRows, square_at, Spans, AreAbove, AreHeights, AreRowsFor, replaced}
use Rattle.std.specs.Prelude.{slice_range}
use Rattle.std.proofs.lemmas.List.{drop-drop, drop-take}
use Rattle.finite_sets.proofs.Places.{In-take, In-drop, In-take_drop}
use Rattle.run_plane.specs.steps.Changes.{IsRowWith, IsBand}
use Rattle.run_plane.proofs.RowLaws.{runs_stop, runs_top, runs_own, row_above, row_facts, rising_from, rising_take, rising_drop, rising_append}
use Rattle.run_plane.proofs.ChangeLaws.{IsRight, HasCritical, all_right}

-- the part between two places lies in the front up to the second
middle_in_front : {X : Type 0} (from until : ℕ) (xs : List X) → from ≤ until → (x : X) → In x (slice_range xs from until) → In x (take until xs)
middle_in_front {X} from until xs p x i =
    let same : from + (until - from) ≡ until = omega arith in
    let part : drop from (take until xs) ≡ slice_range xs from until = ap (λ (n : ℕ). drop from (take n xs)) (sym same) ∙ drop-take from (until - from) xs in
    In-drop from (take until xs) x (subst (In x) (sym part) i)

-- a member is in the front, between the places or in the rest
three_parts : {X : Type 0} (from until : ℕ) (xs : List X) → from ≤ until → (x : X) → In x xs
    → In x (take from xs) ⊎ (In x (slice_range xs from until) ⊎ In x (drop until xs))
three_parts {X} from until xs p x i = elim (In-take_drop from xs x i) [
  | inl front ↦ inl front
  | inr rest ↦ (
      let same : from + (until - from) ≡ until = omega arith in
      let tail : drop (until - from) (drop from xs) ≡ drop until xs = drop-drop (until - from) from xs ∙ ap (λ (n : ℕ). drop n xs) same in
      elim (In-take_drop (until - from) (drop from xs) x rest) [
        | inl middle ↦ inr (inl middle)
        | inr last ↦ inr (inr (subst (In x) tail last))
      ])
]

-- the places before and after the rows of a span
pub band_found : (rows : List Row) (span : Range ℤ) (from until : ℕ) → span.start <ℤ span.end → from ≤ length rows → until ≤ length rows
    → All (λ row. row.ylo ≤ℤ (span.start -ℤ pos 1)) (take from rows) → All (λ row. (span.start -ℤ pos 1) <ℤ row.ylo) (drop from rows)
    → All (λ row. row.ylo ≤ℤ span.end) (take until rows) → All (λ row. span.end <ℤ row.ylo) (drop until rows)
    → IsBand rows span (record { start = from; end = until })
band_found rows span from until order p q below from_on up_to above =
    let d : Row = record { ylo = pos 0; runs = [] } in
    let in_order : from ≤ until = elim (cases_lt until from) [
      | inr more ↦ more
      | inl less ↦ absurd (
          let low : (get_or rows until d).ylo ≤ℤ (span.start -ℤ pos 1) =
          subst (λ (r : Row). r.ylo ≤ℤ (span.start -ℤ pos 1)) (get_or-take from rows until d less) (below until d (omega (arith, length-take from rows))) in
          let here : until + 0 ≡ until = omega arith in
          let high : span.end <ℤ (get_or rows until d).ylo =
          subst (λ (r : Row). span.end <ℤ r.ylo) (get_or-drop until rows 0 d ∙ ap (λ (n : ℕ). get_or rows n d) here)
          (above 0 d (omega (arith, length-drop until rows))) in
          omega (arith, ints))
    ] in
    record {
      in_order = in_order;
      within = q;
      below = λ row i. let h = All-In (λ row. row.ylo ≤ℤ (span.start -ℤ pos 1)) (take from rows) row below i in omega (arith, ints);
      inside = λ row i.
          let low = All-In (λ row. (span.start -ℤ pos 1) <ℤ row.ylo) (drop from rows) row from_on (In-take (until - from) (drop from rows) row i) in
          (omega (arith, ints), All-In (λ row. row.ylo ≤ℤ span.end) (take until rows) row up_to (middle_in_front from until rows in_order row i));
      above = λ row i. All-In (λ row. span.end <ℤ row.ylo) (drop until rows) row above i;
    }

-- one more height, and its row
pub rows_for_push : (rows : List Row) (pieces : List Piece) (heights : List ℤ) (found : List Row) (height : ℤ) (row : Row)
    → AreRowsFor rows pieces heights found → row.ylo ≡ height → IsRowWith rows pieces row
    → AreRowsFor rows pieces (heights ++ height ∷ []) (found ++ row ∷ [])
rows_for_push rows pieces [] [] height row are e is = (e, is, tt)
rows_for_push rows pieces [] (r ∷ found) height row are e is = absurd are
rows_for_push rows pieces (h ∷ heights) [] height row are e is = absurd are
rows_for_push rows pieces (h ∷ heights) (r ∷ found) height row are e is = (are.0, are.1, rows_for_push rows pieces heights found height row are.2 e is)

module _ (rows : List Row) (pieces : List Piece) where
  row_at_height : (heights : List ℤ) (found : List Row) → AreRowsFor rows pieces heights found → (height : ℤ) → In height heights
      → (row : Row) × In row found × (row.ylo ≡ height)
  row_at_height [] found are height i = absurd i
  row_at_height (h ∷ heights) [] are height i = absurd are
  row_at_height (h ∷ heights) (r ∷ found) are height (inl e) = (r, inl refl, are.0 ∙ e)
  row_at_height (h ∷ heights) (r ∷ found) are height (inr i) = let rest = row_at_height heights found are.2 height i in (rest.0, inr rest.1, rest.2)

  row_found : (heights : List ℤ) (found : List Row) → AreRowsFor rows pieces heights found → (row : Row) → In row found
      → IsRowWith rows pieces row × In row.ylo heights
  row_found [] [] are row i = absurd i
  row_found [] (r ∷ found) are row i = absurd are
  row_found (h ∷ heights) [] are row i = absurd are
  row_found (h ∷ heights) (r ∷ found) are row (inl e) = (subst (IsRowWith rows pieces) e are.1, inl (sym are.0 ∙ ap (λ (s : Row). s.ylo) e))
  row_found (h ∷ heights) (r ∷ found) are row (inr i) = let rest = row_found heights found are.2 row i in (rest.0, inr rest.1)

  pub rising_found : (low : ℤ) (heights : List ℤ) (found : List Row) → AreRowsFor rows pieces heights found → AreAbove low heights
      → ((height : ℤ) → In height heights → IsSmall height) → AreRising low found
  rising_found low [] [] are above near = tt
  rising_found low [] (r ∷ found) are above near = absurd are
  rising_found low (h ∷ heights) [] are above near = absurd are
  rising_found low (h ∷ heights) (r ∷ found) are above near = (
    record { above = subst (λ (z : ℤ). low <ℤ z) (sym are.0) above.0; near = subst IsSmall (sym are.0) (near h (inl refl)); runs = are.1.ordered },
    rising_found r.ylo heights found are.2 (subst (λ (z : ℤ). AreAbove z heights) (sym are.0) above.1) (λ z i. near z (inr i)),
  )

-- no rising rows begin at the edge or below it
number_low : (rows : List Row) (x y : ℤ) → AreRising edge rows → y ≤ℤ edge → number_at rows (square_at x y) ≡ 0
number_low rows x y rising p = ap (λ (runs : List Run). value_at runs x) (runs_stop [] [] rows y
    (λ row i. let above : edge <ℤ row.ylo = row_above edge rows row rising i in omega (arith, ints)))

-- far up there are the numbers of the highest row
pub number_high : (rows : List Row) (x : ℤ) → AreRising edge rows → number_at rows (square_at x PLANE_EDGE) ≡ value_at (top_runs [] rows) x
number_high rows x rising = ap (λ (runs : List Run). value_at runs x)
    (runs_top [] rows PLANE_EDGE (λ row i. let near : row.ylo <ℤ PLANE_EDGE = (row_facts edge rows row rising i).near.1 in omega (arith, ints)))

module _ (rows : List Row) (pieces : List Piece) (whole : AreRows rows)
    (proper : All (λ piece. IsProper piece.area) pieces) (near : All (λ piece. IsNear piece.area) pieces)
    (span : Range ℤ) (spans : Spans span pieces) (band : Range ℕ) (is_band : IsBand rows span band)
    (heights : List ℤ) (are : AreHeights (slice_range rows band.start band.end) pieces heights) where
  -- all heights are in the span
  height_facts : (height : ℤ) → In height heights → (span.start ≤ℤ height) × (height ≤ℤ span.end) × IsSmall height
  height_facts height i = elim (are.only height i) [
    | inl (row, j, e) ↦ (
        let inside = is_band.inside row j in
        let there : In row rows = In-drop band.start rows row (In-take (band.end - band.start) (drop band.start rows) row j) in
        subst (λ (h : ℤ). (span.start ≤ℤ h) × (h ≤ℤ span.end) × IsSmall h) e (inside.0, inside.1, (row_facts edge rows row whole.rising there).near))
    | inr (piece, j, e) ↦ (
        let low : span.start ≤ℤ piece.area.ylo = spans.low piece j in
        let high : piece.area.yhi ≤ℤ span.end = spans.high piece j in
        let tall : piece.area.ylo <ℤ piece.area.yhi = (All-In (λ piece. IsProper piece.area) pieces piece proper j).high in
        let small = All-In (λ piece. IsNear piece.area) pieces piece near j in
        elim e [
          | inl f ↦ subst (λ (h : ℤ). (span.start ≤ℤ h) × (h ≤ℤ span.end) × IsSmall h) f (low, omega (arith, ints), small.ylo)
          | inr f ↦ subst (λ (h : ℤ). (span.start ≤ℤ h) × (h ≤ℤ span.end) × IsSmall h) f (omega (arith, ints), high, small.yhi)
        ])
  ]

  pub heights_above : AreAbove edge heights
  heights_above = are.rising edge (λ h i. (height_facts h i).2.0)

  pub heights_small : All IsSmall heights
  heights_small = λ k d within. (height_facts (get_or heights k d) (In-get_or heights k d within)).2

module _ (rows : List Row) (pieces : List Piece) (whole : AreRows rows)
    (proper : All (λ piece. IsProper piece.area) pieces) (near : All (λ piece. IsNear piece.area) pieces)
    (span : Range ℤ) (spans : Spans span pieces) (band : Range ℕ) (is_band : IsBand rows span band)
    (heights : List ℤ) (are : AreHeights (slice_range rows band.start band.end) pieces heights)
    (found : List Row) (for : AreRowsFor rows pieces heights found) where
  abbrev next : List Row
  next = replaced rows band.start band.end found

  -- each row of the next ones is kept or found
  parts : (row : Row) → In row next → (In row rows × ((row.ylo <ℤ span.start) ⊎ (span.end <ℤ row.ylo))) ⊎ In row found
  parts row i = elim (In-append_cases row (take band.start rows ++ found) (drop band.end rows) i) [
    | inr last ↦ inl (In-drop band.end rows row last, inr (is_band.above row last))
    | inl early ↦ elim (In-append_cases row (take band.start rows) found early) [
      | inl first ↦ inl (In-take band.start rows row first, inl (is_band.below row first))
      | inr middle ↦ inr middle
    ]
  ]

  facts : (height : ℤ) → In height heights → (span.start ≤ℤ height) × (height ≤ℤ span.end) × IsSmall height
  facts = height_facts rows pieces whole proper near span spans band is_band heights are

  rising_next : AreRising edge next
  rising_next =
      let start_small : edge <ℤ span.start = spans.near_start.0 in
      let order : span.start <ℤ span.end = spans.in_order in
      let before = span.start -ℤ pos 1 in
      let found_rising : AreRising before found =
      rising_found rows pieces before heights found for (are.rising before (λ h i. let low : span.start ≤ℤ h = (facts h i).0 in omega (arith, ints)))
      (λ h i. (facts h i).2) in
      let below : (row : Row) → In row (take band.start rows) → row.ylo ≤ℤ before = λ row i. let less : row.ylo <ℤ span.start = is_band.below row i in
      omega (arith, ints) in
      let front = rising_append edge before (take band.start rows) found (omega (arith, ints)) (rising_take edge band.start rows whole.rising) below
      found_rising in
      let up_to : (row : Row) → In row (take band.start rows ++ found) → row.ylo ≤ℤ span.end = λ row i.
      elim (In-append_cases row (take band.start rows) found i) [
        | inl j ↦ (let less : row.ylo <ℤ span.start = is_band.below row j in omega (arith, ints))
        | inr j ↦ (facts row.ylo (row_found rows pieces heights found for row j).1).1
      ] in
      rising_append edge span.end (take band.start rows ++ found) (drop band.end rows) (omega (arith, ints)) front up_to
      (rising_from edge span.end (drop band.end rows) (rising_drop edge band.end rows whole.rising) is_band.above)

  -- no piece covers a square outside of the span
  none_outside : (x y : ℤ) → (y <ℤ span.start) ⊎ (span.end ≤ℤ y) → (piece : Piece) → In piece pieces → Covers piece.area (square_at x y) → ⊥
  none_outside x y out piece i c =
      let low : span.start ≤ℤ piece.area.ylo = spans.low piece i in
      let high : piece.area.yhi ≤ℤ span.end = spans.high piece i in
      let above : piece.area.ylo ≤ℤ y = c.above_ylo in
      let below : y <ℤ piece.area.yhi = c.below_yhi in
      elim out [ inl p ↦ omega (arith, ints, p) | inr p ↦ omega (arith, ints, p) ]

  each_right : (x : ℤ) (row : Row) → In row next → IsRight rows pieces x row.ylo (value_at row.runs x)
  each_right x row i = elim (parts row i) [
    | inr j ↦ (row_found rows pieces heights found for row j).0.set x
    | inl (j, out) ↦ (
        let own : value_at row.runs x ≡ number_at rows (square_at x row.ylo) = ap (λ (runs : List Run). value_at runs x)
        (sym (runs_own edge [] rows row whole.rising j)) in
        let none = none_outside x row.ylo (elim out [ inl p ↦ inl p | inr p ↦ inr (omega (arith, ints, p)) ]) in
        record { set = λ piece k c. absurd (none piece k c); other = λ _. own })
  ]

  has_critical : HasCritical rows pieces edge next
  has_critical c critical less =
      let from_height : In c heights → (row : Row) × In row next × (row.ylo ≡ c) = λ i.
      let there = row_at_height rows pieces heights found for c i in (
        there.0,
        In-append_left there.0 (take band.start rows ++ found) (drop band.end rows)
            (In-append_right there.0 (take band.start rows) found there.1),
        there.2,
      ) in
      elim critical [
        | inr (piece, i, e) ↦ from_height (are.of_pieces piece i c e)
        | inl (row, i, e) ↦ elim (three_parts band.start band.end rows is_band.in_order row i) [
          | inl first ↦ (
            row,
            In-append_left row (take band.start rows ++ found) (drop band.end rows)
                (In-append_left row (take band.start rows) found first),
            e,
          )
          | inr (inl middle) ↦ from_height (subst (λ (h : ℤ). In h heights) e (are.of_rows row middle))
          | inr (inr last) ↦ (row, In-append_right row (take band.start rows ++ found) (drop band.end rows) last, e)
        ]
      ]

  low_right : (x y : ℤ) → y ≤ℤ edge → (v : ℕ) → v ≡ 0 → IsRight rows pieces x y v
  low_right x y p v zero =
      let start_small : edge <ℤ span.start = spans.near_start.0 in
      let none = none_outside x y (inl (omega (arith, ints))) in
      record { set = λ piece i c. absurd (none piece i c); other = λ _. zero ∙ sym (number_low rows x y whole.rising p) }

  right_next : (x y : ℤ) → IsRight rows pieces x y (number_at next (square_at x y))
  right_next x y = elim (at_most_or_greater edge y) [
    | inl p ↦ all_right rows pieces edge [] next x rising_next (low_right x edge (omega (arith, ints)) 0 refl) (each_right x) has_critical y p
    | inr p ↦ low_right x y (omega (arith, ints, p)) (number_at next (square_at x y)) (number_low next x y rising_next (omega (arith, ints, p)))
  ]

  -- the rows where those of the band are replaced are those of a plane
  pub rows_next : AreRows next
  rows_next =
      let top = PLANE_EDGE in
      let end_small : span.end <ℤ top = spans.near_end.1 in
      record {
        rising = rising_next;
        ended = λ x. sym (number_high next x rising_next) ∙ (right_next x top).other (none_outside x top (inr (omega (arith, ints))))
            ∙ number_high rows x whole.rising ∙ whole.ended x;
      }

  -- and in them the pieces are set
  pub set_next : AreSet (number_at rows) (number_at next) pieces
  set_next =
      let at : (piece : Piece) (square : Square) → Covers piece.area square → Covers piece.area (square_at square.x square.y) =
      λ piece square c. record { right_of_xlo = c.right_of_xlo; left_of_xhi = c.left_of_xhi; above_ylo = c.above_ylo; below_yhi = c.below_yhi } in
      let back : (piece : Piece) (square : Square) → Covers piece.area (square_at square.x square.y) → Covers piece.area square =
      λ piece square c. record { right_of_xlo = c.right_of_xlo; left_of_xhi = c.left_of_xhi; above_ylo = c.above_ylo; below_yhi = c.below_yhi } in
      record {
        set = λ piece i square c. (right_next square.x square.y).set piece i (at piece square c);
        others = λ square none. (right_next square.x square.y).other (λ piece i c. none piece i (back piece square c));
      }
