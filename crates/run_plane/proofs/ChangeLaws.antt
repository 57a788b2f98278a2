-- Rows that are right at each height where something begins or ends are right everywhere.
use Rattle.run_plane.proofs.Common.{◌≡◌, ◌⊎◌, inl, inr, ℕ, ℤ, ◌≤ℤ◌, ◌<ℤ◌, List, [], ◌∷◌, refl, sym, ◌∙◌, ap, subst, arith, ints, In}
use Rattle.run_plane.proofs.Common.{at_most_or_greater, Piece, Covers, Run, Row, value_at, runs_from, number_at, AreRising, square_at}
use Rattle.run_plane.specs.steps.Changes.{IsSetTo, HasEdgeAt}
use Rattle.run_plane.proofs.RowLaws.{runs_in, runs_under, runs_between, row_above}

module _ (rows : List Row) (pieces : List Piece) where
  -- a row begins or a piece begins or ends there
  abbrev pub IsCritical : ℤ → Type 0
  IsCritical c = ((row : Row) × In row rows × (row.ylo ≡ c)) ⊎ ((piece : Piece) × In piece pieces × HasEdgeAt piece c)

  -- v is right for the square when the pieces are set
  abbrev pub IsRight : ℤ → ℤ → ℕ → Type 0
  IsRight x y v = IsSetTo pieces (square_at x y) (number_at rows (square_at x y)) v

  -- what is right at low stays so up to y, where nothing begins or ends
  right_between : (x low y : ℤ) (v : ℕ) → low ≤ℤ y → ((c : ℤ) → IsCritical c → (c ≤ℤ low) ⊎ (y <ℤ c)) → IsRight x low v → IsRight x y v
  right_between x low y v p none right =
      let same : number_at rows (square_at x y) ≡ number_at rows (square_at x low) =
      ap (λ (runs : List Run). value_at runs x) (runs_between [] rows low y p (λ row i. none row.ylo (inl (row, i, refl)))) in
      let down : (piece : Piece) → In piece pieces → Covers piece.area (square_at x y) → Covers piece.area (square_at x low) = λ piece i c.
      let low_edge : piece.area.ylo ≤ℤ y = c.above_ylo in
      let high_edge : y <ℤ piece.area.yhi = c.below_yhi in
      record {
        right_of_xlo = c.right_of_xlo;
        left_of_xhi = c.left_of_xhi;
        above_ylo = elim (none piece.area.ylo (inr (piece, i, inl refl))) [ inl q ↦ q | inr q ↦ absurd (omega (arith, ints, q)) ];
        below_yhi = omega (arith, ints);
      } in
      let up : (piece : Piece) → In piece pieces → Covers piece.area (square_at x low) → Covers piece.area (square_at x y) = λ piece i c.
      let low_edge : piece.area.ylo ≤ℤ low = c.above_ylo in
      let high_edge : low <ℤ piece.area.yhi = c.below_yhi in
      record {
        right_of_xlo = c.right_of_xlo;
        left_of_xhi = c.left_of_xhi;
        above_ylo = omega (arith, ints);
        below_yhi = elim (none piece.area.yhi (inr (piece, i, inr refl))) [ inl q ↦ absurd (omega (arith, ints, q)) | inr q ↦ q ];
      } in
      record { set = λ piece i c. right.set piece i (down piece i c); other = λ out. right.other (λ piece i c. out piece i (up piece i c)) ∙ sym same }

  -- each critical height above low is that of a row
  abbrev pub HasCritical : ℤ → List Row → Type 0
  HasCritical low others = (c : ℤ) → IsCritical c → low <ℤ c → (row : Row) × In row others × (row.ylo ≡ c)

  none_between : (low y : ℤ) (others : List Row) → HasCritical low others → ((row : Row) → In row others → y <ℤ row.ylo) → (c : ℤ) → IsCritical c
      → (c ≤ℤ low) ⊎ (y <ℤ c)
  none_between low y others has above c critical = elim (at_most_or_greater c low) [
    | inl p ↦ inl p
    | inr p ↦ (let found = has c critical p in inr (subst (λ (z : ℤ). y <ℤ z) found.2 (above found.0 found.1)))
  ]

  -- rows that are right at their own heights, and begin at all critical heights above low, are right from low on
  pub all_right : (low : ℤ) (under : List Run) (others : List Row) (x : ℤ) → AreRising low others → IsRight x low (value_at under x)
      → ((row : Row) → In row others → IsRight x row.ylo (value_at row.runs x)) → HasCritical low others
      → (y : ℤ) → low ≤ℤ y → IsRight x y (value_at (runs_from under others y) x)
  all_right low under [] x rising first each has y p = right_between x low y (value_at under x) p (none_between low y [] has (λ row i. absurd i)) first
  all_right low under (row ∷ others) x rising first each has y p = elim (at_most_or_greater row.ylo y) [
    | inl begun ↦ (
        let above : low <ℤ row.ylo = rising.0.above in
        let has' : HasCritical row.ylo others = λ c critical less.
        let found = has c critical (omega (arith, ints, less)) in
        elim found.1 [
          | inl e ↦ absurd (let same : row.ylo ≡ found.0.ylo = ap (λ (r : Row). r.ylo) e in let there : found.0.ylo ≡ c = found.2 in omega (arith, ints, less))
          | inr i ↦ (found.0, i, found.2)
        ] in
        subst (λ (runs : List Run). IsRight x y (value_at runs x)) (sym (runs_in under row others y begun))
        (all_right row.ylo row.runs others x rising.1 (each row (inl refl)) (λ r i. each r (inr i)) has' y begun))
    | inr above ↦ (
        let over : (r : Row) → In r (row ∷ others) → y <ℤ r.ylo = λ r i. elim i [
          | inl e ↦ subst (λ (s : Row). y <ℤ s.ylo) e above
          | inr j ↦ (let more : row.ylo <ℤ r.ylo = row_above row.ylo others r rising.1 j in omega (arith, ints, above))
        ] in
        subst (λ (runs : List Run). IsRight x y (value_at runs x)) (sym (runs_under under row others y above))
        (right_between x low y (value_at under x) p (none_between low y (row ∷ others) has over) first))
  ]
