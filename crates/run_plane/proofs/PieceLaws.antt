-- Rows as pieces, one row after the other.
use Rattle.run_plane.proofs.Common.{◌≡◌, ◌≢◌, inl, inr, ℕ, zero, suc, ◌+◌, ◌-◌, ◌<◌, ◌≤◌, ℤ, pos, ◌-ℤ◌, ◌≤ℤ◌, ◌<ℤ◌, List, [], ◌∷◌, ◌++◌, length, map}
use Rattle.run_plane.proofs.Common.{take, drop, get_or, sym, ◌∙◌, ap, subst, arith, All, int_min, int_max, cases_lt, ints, clamps, get_or-take}
use Rattle.run_plane.proofs.Common.{get_or-drop, length-take, length-drop, In, In-get_or, In-append_left, In-append_right, In-append_cases, In-map}
use Rattle.run_plane.proofs.Common.{In-map_source, at_most_or_greater, Square, Piece, Covers, Run, Row, value_at, runs_from, number_at, edge}
use Rattle.run_plane.proofs.Common.{AreRuns, AreRising, no_row, piece_of, AreBetween}
use Rattle.run_plane.proofs.RunLaws.{value_of_run, run_of_value}
use Rattle.run_plane.proofs.RowLaws.{runs_in, runs_under, runs_stop, row_above, row_facts, all_above}

-- the runs at y are those of the row at this place, where it begins at y or below and the next above y
pub runs_index : (low : ℤ) (under : List Run) (rows : List Row) (k : ℕ) (d : Row) (y : ℤ) → AreRising low rows → k < length rows → (get_or rows k d).ylo ≤ℤ y
    → (k + 1 < length rows → y <ℤ (get_or rows (k + 1) d).ylo) → runs_from under rows y ≡ (get_or rows k d).runs
runs_index low under [] k d y rising p begun next = absurd (omega arith)
runs_index low under (row ∷ []) zero d y rising p begun next = runs_in under row [] y begun
runs_index low under (row ∷ other ∷ rows) zero d y rising p begun next = runs_in under row (other ∷ rows) y begun ∙ runs_under row.runs other rows y
    (next (omega arith))
runs_index low under (row ∷ rows) (suc k) d y rising p begun next =
    let above : row.ylo <ℤ (get_or rows k d).ylo = row_above row.ylo rows (get_or rows k d) rising.1 (In-get_or rows k d (omega arith)) in
    let here : row.ylo ≤ℤ y = omega (arith, ints) in
    let one_more : suc k + 1 ≡ suc (k + 1) = omega arith in
    runs_in under row rows y here ∙ runs_index row.ylo row.runs rows k d y rising.1 (omega arith) begun
    (λ q. subst (λ (n : ℕ). y <ℤ (get_or (row ∷ rows) n d).ylo) one_more (next (omega arith)))

-- the row at this place, if there is one, begins above y
abbrev pub IsBelowRow : List Row → ℕ → ℤ → Type 0
IsBelowRow rows k y = k < length rows → y <ℤ (get_or rows k no_row).ylo

-- the pieces have what the rows before this place have between the heights
pub record AreCovered (rows : List Row) (low high : ℤ) (k : ℕ) (pieces : List Piece) : Type 0 where
  pub each : (piece : Piece) → In piece pieces → (square : Square) → Covers piece.area square
      → (low ≤ℤ square.y) × (square.y <ℤ high) × (number_at rows square ≡ piece.value)
  pub every : (square : Square) → low ≤ℤ square.y → square.y <ℤ high → IsBelowRow rows k square.y → number_at rows square ≢ 0
      → (piece : Piece) × In piece pieces × Covers piece.area square

module _ (rows : List Row) (low high : ℤ) (rising : AreRising edge rows) where
  -- the pieces of one more row
  pub covered_more : (k : ℕ) (top : ℤ) (pieces : List Piece) → k < length rows → (k + 1 < length rows → top ≡ (get_or rows (k + 1) no_row).ylo)
      → (length rows ≤ k + 1 → top ≡ high)
      → AreCovered rows low high k pieces
      → AreCovered rows low high (k + 1) (pieces ++ map (piece_of (int_max (get_or rows k no_row).ylo low) (int_min top high)) (get_or rows k no_row).runs)
  covered_more k top pieces p next last covered =
      let row = get_or rows k no_row in
      let ylo = int_max row.ylo low in
      let yhi = int_min top high in
      let ordered : AreRuns edge row.runs = (row_facts edge rows row rising (In-get_or rows k no_row p)).runs in
      let own : (y : ℤ) → row.ylo ≤ℤ y → (k + 1 < length rows → y <ℤ (get_or rows (k + 1) no_row).ylo) → runs_from [] rows
      y ≡ row.runs = λ y begun before. runs_index edge [] rows k no_row y rising p begun before in
      record {
        each = λ piece i square c. elim (In-append_cases piece pieces (map (piece_of ylo yhi) row.runs) i) [
          | inl old ↦ covered.each piece old square c
          | inr new ↦ (
              let source = In-map_source (piece_of ylo yhi) piece row.runs new in
              let run = source.0 in
              let c' : Covers (piece_of ylo yhi run).area square = subst (λ (q : Piece). Covers q.area square) (sym source.1.1) c in
              let from : ylo ≤ℤ square.y = c'.above_ylo in
              let to : square.y <ℤ yhi = c'.below_yhi in
              let same = own square.y (omega (arith, ints, clamps)) (λ q. let is : top ≡ (get_or rows (k + 1) no_row).ylo = next q in
              omega (arith, ints, clamps)) in (
                omega (arith, ints, clamps),
                omega (arith, ints, clamps),
                ap (λ (runs : List Run). value_at runs square.x) same ∙ value_of_run edge row.runs run square.x ordered source.1.0 c'.right_of_xlo
                    c'.left_of_xhi ∙ ap (λ (q : Piece). q.value) source.1.1,
              ))
        ];
        every = λ square from to below some. elim (at_most_or_greater row.ylo square.y) [
          | inr less ↦ (
              let old = covered.every square from to (λ _. less) some in
              (old.0, In-append_left old.0 pieces (map (piece_of ylo yhi) row.runs) old.1, old.2))
          | inl begun ↦ (
              let same = own square.y begun below in
              let found = run_of_value row.runs square.x (λ e. some (ap (λ (runs : List Run). value_at runs square.x) same ∙ e)) in
              let before_top : square.y <ℤ top = elim (cases_lt (k + 1) (length rows)) [
                | inl more ↦ (let less = below more in let is = next more in omega (arith, ints, less, is))
                | inr none ↦ (let is = last none in omega (arith, ints, is))
              ] in (
                piece_of ylo yhi found.0,
                In-append_right (piece_of ylo yhi found.0) pieces (map (piece_of ylo yhi) row.runs) (In-map (piece_of ylo yhi) found.0 row.runs found.1.0),
                record { right_of_xlo = found.1.1; left_of_xhi = found.1.2; above_ylo = omega (arith, ints, clamps); below_yhi = omega (arith, ints, clamps) },
              ))
        ];
      }

  -- there is nothing between the heights before the row at low
  pub covered_none : (count first : ℕ) → All (λ row. row.ylo ≤ℤ low) (take count rows) → All (λ row. low <ℤ row.ylo) (drop count rows)
      → count ≤ length rows → first ≡ count - 1
      → AreCovered rows low high first []
  covered_none count first below above p e = record {
    each = λ piece i. absurd i;
    every = λ square from to before some. absurd (elim (cases_lt 0 count) [
      | inl more ↦ (
          let at : first < count = omega (arith, more) in
          let within : first < length rows = omega (arith, more) in
          let less : square.y <ℤ (get_or rows first no_row).ylo = before within in
          let high' : (get_or rows first no_row).ylo ≤ℤ low =
          subst (λ (r : Row). r.ylo ≤ℤ low) (get_or-take count rows first no_row at) (below first no_row (omega (arith, length-take count rows))) in
          omega (arith, ints))
      | inr none ↦ (
          let start : first ≡ 0 = omega (arith, none) in
          let all : (row : Row) → In row rows → square.y <ℤ row.ylo = λ row i. all_above edge rows no_row square.y rising
          (λ q. subst (λ (n : ℕ). square.y <ℤ (get_or rows n no_row).ylo) start (before (subst (λ (n : ℕ). n < length rows) (sym start) q))) row i in
          some (ap (λ (runs : List Run). value_at runs square.x) (runs_stop [] [] rows square.y all)))
    ]);
  }

  -- all rows that begin below high are there
  pub covered_all : (k last : ℕ) (pieces : List Piece) → AreCovered rows low high k pieces → last ≤ k
      → All (λ row. (high -ℤ pos 1) <ℤ row.ylo) (drop last rows) → AreBetween rows low high pieces
  covered_all k last pieces covered p above = record {
    each = covered.each;
    every = λ square from to some. covered.every square from to
        (λ q.
        let same : last + (k - last) ≡ k = omega arith in
        let at : (high -ℤ pos 1) <ℤ (get_or rows k no_row).ylo =
        subst (λ (r : Row). (high -ℤ pos 1) <ℤ r.ylo) (get_or-drop last rows (k - last) no_row ∙ ap (λ (n : ℕ). get_or rows n no_row) same)
        (above (k - last) no_row (omega (arith, length-drop last rows))) in
        omega (arith, ints))
        some;
  }
