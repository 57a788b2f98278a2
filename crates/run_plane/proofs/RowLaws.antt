-- Rows from the lowest up: the runs at a height.
use Rattle.run_plane.proofs.Common.{◌≡◌, ◌⊎◌, inl, inr, ℕ, zero, suc, ◌+◌, ◌<◌, ◌≤◌, ℤ, ◌≤ℤ◌, ◌<ℤ◌, true, false, cond, List, [], ◌∷◌, ◌++◌, length}
use Rattle.run_plane.proofs.Common.{take, drop, get_or, refl, sym, ◌∙◌, ap, subst, arith, All, int_le, ints, In, In-get_or, at_most_or_greater}
use Rattle.run_plane.proofs.Common.{All-In, Run, Row, edge, AreRuns, runs_from, top_runs, AreRising}
use Rattle.std.proofs.lemmas.List.{take-append-drop}
use Rattle.run_plane.specs.Rows.{IsRowAbove}

-- the first row begins at y or below
pub runs_in : (under : List Run) (row : Row) (rows : List Row) (y : ℤ) → row.ylo ≤ℤ y → runs_from under (row ∷ rows) y ≡ runs_from row.runs rows y
runs_in under row rows y p = let t : int_le row.ylo y ≡ true = grind (arith, ints) in ap (λ v. cond v (runs_from row.runs rows y) under) t

-- the first row begins above y
pub runs_under : (under : List Run) (row : Row) (rows : List Row) (y : ℤ) → y <ℤ row.ylo → runs_from under (row ∷ rows) y ≡ under
runs_under under row rows y p = let t : int_le row.ylo y ≡ false = grind (arith, ints) in ap (λ v. cond v (runs_from row.runs rows y) under) t

-- rows that begin above y don't count
pub runs_stop : (under : List Run) (xs ys : List Row) (y : ℤ) → ((row : Row) → In row ys → y <ℤ row.ylo) → runs_from under (xs ++ ys) y ≡ runs_from under xs y
runs_stop under [] [] y above = refl
runs_stop under [] (row ∷ ys) y above = runs_under under row ys y (above row (inl refl))
runs_stop under (row ∷ xs) ys y above = elim (at_most_or_greater row.ylo y) [
  | inl p ↦ runs_in under row (xs ++ ys) y p ∙ runs_stop row.runs xs ys y above ∙ sym (runs_in under row xs y p)
  | inr p ↦ runs_under under row (xs ++ ys) y p ∙ sym (runs_under under row xs y p)
]

-- of rows that all begin at y or below the highest counts
pub runs_top : (under : List Run) (xs : List Row) (y : ℤ) → ((row : Row) → In row xs → row.ylo ≤ℤ y) → runs_from under xs y ≡ top_runs under xs
runs_top under [] y below = refl
runs_top under (row ∷ xs) y below = runs_in under row xs y (below row (inl refl)) ∙ runs_top row.runs xs y (λ r i. below r (inr i))

-- the runs of the first rows are those of the last of them
pub top_at : (under : List Run) (rows : List Row) (k : ℕ) (d : Row) → k < length rows → top_runs under (take (suc k) rows) ≡ (get_or rows k d).runs
top_at under [] k d p = absurd (omega arith)
top_at under (row ∷ rows) zero d p = refl
top_at under (row ∷ rows) (suc k) d p = top_at row.runs rows k d (omega arith)

-- the runs at y are those of the highest of the rows that begin at y or below
pub runs_at_count : (rows : List Row) (k : ℕ) (y : ℤ) → All (λ row. row.ylo ≤ℤ y) (take k rows) → All (λ row. y <ℤ row.ylo) (drop k rows)
    → runs_from [] rows y ≡ top_runs [] (take k rows)
runs_at_count rows k y below above =
    ap (λ (v : List Row). runs_from [] v y) (sym (take-append-drop k rows))
    ∙ runs_stop [] (take k rows) (drop k rows) y (λ row here. All-In (λ row. y <ℤ row.ylo) (drop k rows) row above here)
    ∙ runs_top [] (take k rows) y (λ row here. All-In (λ row. row.ylo ≤ℤ y) (take k rows) row below here)

-- each row of rising rows begins above low
pub row_above : (low : ℤ) (rows : List Row) (row : Row) → AreRising low rows → In row rows → low <ℤ row.ylo
row_above low [] row rising i = elim i [ ]
row_above low (first ∷ rows) row rising (inl e) = subst (λ (r : Row). low <ℤ r.ylo) e rising.0.above
row_above low (first ∷ rows) row rising (inr i) =
    let more : first.ylo <ℤ row.ylo = row_above first.ylo rows row rising.1 i in
    let above : low <ℤ first.ylo = rising.0.above in
    omega (arith, ints)

-- each of rising rows begins above and has its runs in order
pub row_facts : (low : ℤ) (rows : List Row) (row : Row) → AreRising low rows → In row rows → IsRowAbove low row
row_facts low [] row rising i = elim i [ ]
row_facts low (first ∷ rows) row rising (inl e) = subst (IsRowAbove low) e rising.0
row_facts low (first ∷ rows) row rising (inr i) =
    let rest = row_facts first.ylo rows row rising.1 i in
    record { above = row_above low (first ∷ rows) row rising (inr i); near = rest.near; runs = rest.runs }

-- at its own height a row has its own runs
pub runs_own : (low : ℤ) (under : List Run) (rows : List Row) (row : Row) → AreRising low rows → In row rows → runs_from under rows row.ylo ≡ row.runs
runs_own low under [] row rising i = elim i [ ]
runs_own low under (first ∷ rows) row rising (inl e) =
    let same : first.ylo ≡ row.ylo = ap (λ (r : Row). r.ylo) e in
    let here : first.ylo ≤ℤ row.ylo = omega (arith, ints) in
    runs_in under first rows row.ylo here
    ∙ runs_stop first.runs [] rows row.ylo (λ r i. subst (λ (y : ℤ). y <ℤ r.ylo) same (row_above first.ylo rows r rising.1 i))
    ∙ ap (λ (r : Row). r.runs) e
runs_own low under (first ∷ rows) row rising (inr i) =
    let more : first.ylo <ℤ row.ylo = row_above first.ylo rows row rising.1 i in
    let here : first.ylo ≤ℤ row.ylo = omega (arith, ints) in
    runs_in under first rows row.ylo here ∙ runs_own first.ylo first.runs rows row rising.1 i

-- between two heights where no row begins the runs stay
pub runs_between : (under : List Run) (rows : List Row) (low y : ℤ) → low ≤ℤ y → ((row : Row) → In row rows → (row.ylo ≤ℤ low) ⊎ (y <ℤ row.ylo))
    → runs_from under rows y ≡ runs_from under rows low
runs_between under [] low y p none = refl
runs_between under (row ∷ rows) low y p none = elim (none row (inl refl)) [
  | inl begun ↦ (let begun' : row.ylo ≤ℤ y = omega (arith, ints, begun) in
      runs_in under row rows y begun' ∙ runs_between row.runs rows low y p (λ r i. none r (inr i)) ∙ sym (runs_in under row rows low begun))
  | inr above ↦ (let above' : low <ℤ row.ylo = omega (arith, ints, above) in
      runs_under under row rows y above ∙ sym (runs_under under row rows low above'))
]

-- rising rows may be said to begin above any height that all begin above
pub rising_from : (low low' : ℤ) (rows : List Row) → AreRising low rows → ((row : Row) → In row rows → low' <ℤ row.ylo) → AreRising low' rows
rising_from low low' [] rising above = tt
rising_from low low' (row ∷ rows) rising above = (record { above = above row (inl refl); near = rising.0.near; runs = rising.0.runs }, rising.1)

-- the first of rising rows rise
pub rising_take : (low : ℤ) (k : ℕ) (rows : List Row) → AreRising low rows → AreRising low (take k rows)
rising_take low zero rows rising = tt
rising_take low (suc k) [] rising = tt
rising_take low (suc k) (row ∷ rows) rising = (rising.0, rising_take row.ylo k rows rising.1)

-- the last of rising rows rise
pub rising_drop : (low : ℤ) (k : ℕ) (rows : List Row) → AreRising low rows → AreRising low (drop k rows)
rising_drop low zero rows rising = rising
rising_drop low (suc k) [] rising = tt
rising_drop low (suc k) (row ∷ rows) rising =
    rising_drop low k rows (rising_from row.ylo low rows rising.1 (λ r i. row_above low (row ∷ rows) r rising (inr i)))

-- rows above other rows
pub rising_append : (low middle : ℤ) (xs ys : List Row) → low ≤ℤ middle → AreRising low xs → ((row : Row) → In row xs → row.ylo ≤ℤ middle)
    → AreRising middle ys → AreRising low (xs ++ ys)
rising_append low middle [] ys p rising below more = rising_from middle low ys more
    (λ r i. let q : middle <ℤ r.ylo = row_above middle ys r more i in omega (arith, ints))
rising_append low middle (row ∷ xs) ys p rising below more = (
  rising.0,
  rising_append row.ylo middle xs ys (below row (inl refl)) rising.1
      (λ r i. below r (inr i)) more,
)

-- of two rows the one further on begins no lower
pub rising_order : (low : ℤ) (rows : List Row) → AreRising low rows → (i j : ℕ) (d : Row) → i ≤ j → j < length rows
    → (get_or rows i d).ylo ≤ℤ (get_or rows j d).ylo
rising_order low [] rising i j d p q = absurd (omega arith)
rising_order low (row ∷ rows) rising zero zero d p q = omega (arith, ints)
rising_order low (row ∷ rows) rising zero (suc j) d p q =
    let later : row.ylo <ℤ (get_or rows j d).ylo = row_above row.ylo rows (get_or rows j d) rising.1 (In-get_or rows j d (omega arith)) in
    omega (arith, ints)
rising_order low (row ∷ rows) rising (suc i) zero d p q = absurd (omega arith)
rising_order low (row ∷ rows) rising (suc i) (suc j) d p q = rising_order row.ylo rows rising.1 i j d (omega arith) (omega arith)

-- the runs at any height are in order
pub runs_ordered : (low : ℤ) (under : List Run) (rows : List Row) (y : ℤ) → AreRuns edge under → AreRising low rows → AreRuns edge (runs_from under rows y)
runs_ordered low under [] y ordered rising = ordered
runs_ordered low under (row ∷ rows) y ordered rising = elim (at_most_or_greater row.ylo y) [
  | inl p ↦ subst (AreRuns edge) (sym (runs_in under row rows y p)) (runs_ordered row.ylo row.runs rows y rising.0.runs rising.1)
  | inr p ↦ subst (AreRuns edge) (sym (runs_under under row rows y p)) ordered
]

-- each row begins above the one before
pub rising_next : (low : ℤ) (rows : List Row) (k : ℕ) (d : Row) → AreRising low rows → k + 1 < length rows
    → (get_or rows k d).ylo <ℤ (get_or rows (k + 1) d).ylo
rising_next low [] k d rising p = absurd (omega arith)
rising_next low (row ∷ []) k d rising p = absurd (omega arith)
rising_next low (row ∷ next ∷ rows) zero d rising p = rising.1.0.above
rising_next low (row ∷ next ∷ rows) (suc k) d rising p =
    let more : suc k + 1 ≡ suc (k + 1) = omega arith in
    subst (λ (n : ℕ). (get_or (next ∷ rows) k d).ylo <ℤ (get_or (row ∷ next ∷ rows) n d).ylo) (sym more)
    (rising_next row.ylo (next ∷ rows) k d rising.1 (omega arith))

-- where the first row begins above y all do
pub all_above : (low : ℤ) (rows : List Row) (d : Row) (y : ℤ) → AreRising low rows → (0 < length rows → y <ℤ (get_or rows 0 d).ylo) → (row : Row)
    → In row rows → y <ℤ row.ylo
all_above low [] d y rising first row i = absurd i
all_above low (next ∷ rows) d y rising first row (inl e) = subst (λ (r : Row). y <ℤ r.ylo) e (first (omega arith))
all_above low (next ∷ rows) d y rising first row (inr i) =
    let less : y <ℤ next.ylo = first (omega arith) in
    let more : next.ylo <ℤ row.ylo = row_above next.ylo rows row rising.1 i in
    omega (arith, ints)
