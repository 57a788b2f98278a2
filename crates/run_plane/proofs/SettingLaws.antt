-- One square where pieces are set one after the other, and the span of pieces.
use Rattle.run_plane.proofs.Common.{◌≡◌, ◌⊎◌, inl, inr, ℕ, suc, ◌<◌, ◌≤◌, ◌≢◌, ◌+◌, ◌-◌, ℤ, pos, ◌-ℤ◌, ◌≤ℤ◌, ◌<ℤ◌, List, [], ◌∷◌, ◌++◌, length, take}
use Rattle.run_plane.proofs.Common.{drop, get_or, refl, sym, ◌∙◌, ap, subst, arith, All, AllPairs, int_min, int_max, Range, cases_eq, cases_lt, ints}
use Rattle.run_plane.proofs.Common.{clamps, get_or-take, get_or-drop, length-take, length-drop, take_more, In, In-append_left, at_most_or_greater}
use Rattle.run_plane.proofs.Common.{Square, Rect, Piece, AreDisjoint, IsNear, Covers, IsProper, Run, Row, value_at, runs_from, number_at, edge}
use Rattle.run_plane.proofs.Common.{AreRuns, AreRising, square_at, Spans, AreRowsFor, no_piece, no_row}
use Rattle.std.proofs.Common.{set}
use Rattle.std.proofs.Math.ListN.{length-set}
use Rattle.std.proofs.lemmas.List.{get_or-set_same, get_or-set_other}
use Rattle.finite_sets.proofs.Members.{In-index, In-push, In-push_cases}
use Rattle.run_plane.specs.steps.Changes.{AreRunsWith, IsSetTo, IsRowWith, IsRowSet, IsSetIn}
use Rattle.run_plane.proofs.RunLaws.{small_min, small_max}
use Rattle.run_plane.proofs.RowLaws.{runs_ordered}

-- a piece is set after others, none of which covers the square where it does
pub set_more : (done : List Piece) (piece : Piece) (square : Square) (old now later : ℕ)
    → ((other : Piece) → In other done → Covers other.area square → Covers piece.area square → ⊥)
    → (Covers piece.area square → later ≡ piece.value) → ((Covers piece.area square → ⊥) → later ≡ now) → IsSetTo done square old now → IsSetTo
    (done ++ piece ∷ []) square old later
set_more done piece square old now later apart inside outside is = record {
  set = λ other i covers. elim (In-push_cases other done piece i) [
    | inl before ↦ outside (λ c. apart other before covers c) ∙ is.set other before covers
    | inr e ↦ inside (subst (λ (p : Piece). Covers p.area square) (sym e) covers) ∙ ap (λ (p : Piece). p.value) e
  ];
  other = λ none. outside (none piece (In-push done piece)) ∙ is.other (λ p i c. none p (In-append_left p done (piece ∷ []) i) c);
}

-- of pieces that stand apart each relates to those after it
pub related_to_next : {X : Type 0} (R : X → X → Type 0) (xs : List X) (k : ℕ) (d x : X) → AllPairs R xs → k < length xs → In x (take k xs) → R x (get_or xs k d)
related_to_next {X} R xs k d x all p i =
    let found = In-index x (take k xs) i in
    let j = found.0 in
    let less : j < length (take k xs) = found.1.0 in
    let before : j < k = omega (arith, length-take k xs) in
    subst (λ (y : X). R y (get_or xs k d)) (sym (get_or-take k xs j d before) ∙ found.1.1 d) (all j k d before p)

-- the span of one piece
pub spans_one : (piece : Piece) → IsProper piece.area → IsNear piece.area → Spans (record { start = piece.area.ylo; end = piece.area.yhi }) (piece ∷ [])
spans_one piece proper near = record {
  low = λ p i. elim i [ inl e ↦ (let same : piece.area.ylo ≡ p.area.ylo = ap (λ (q : Piece). q.area.ylo) e in omega (arith, ints)) | inr n ↦ absurd n ];
  high = λ p i. elim i [ inl e ↦ (let same : piece.area.yhi ≡ p.area.yhi = ap (λ (q : Piece). q.area.yhi) e in omega (arith, ints)) | inr n ↦ absurd n ];
  near_start = near.ylo;
  near_end = near.yhi;
  in_order = proper.high;
}

-- the span of one piece more
pub spans_more : (span : Range ℤ) (done : List Piece) (piece : Piece) → IsNear piece.area → Spans span done
    → Spans (record { start = int_min span.start piece.area.ylo; end = int_max span.end piece.area.yhi }) (done ++ piece ∷ [])
spans_more span done piece near spans =
    let order : span.start <ℤ span.end = spans.in_order in
    record {
      low = λ p i. elim (In-push_cases p done piece i) [
        | inl j ↦ (let before : span.start ≤ℤ p.area.ylo = spans.low p j in omega (arith, ints, clamps))
        | inr e ↦ (let same : piece.area.ylo ≡ p.area.ylo = ap (λ (q : Piece). q.area.ylo) e in omega (arith, ints, clamps))
      ];
      high = λ p i. elim (In-push_cases p done piece i) [
        | inl j ↦ (let before : p.area.yhi ≤ℤ span.end = spans.high p j in omega (arith, ints, clamps))
        | inr e ↦ (let same : piece.area.yhi ≡ p.area.yhi = ap (λ (q : Piece). q.area.yhi) e in omega (arith, ints, clamps))
      ];
      near_start = small_min span.start piece.area.ylo spans.near_start near.ylo;
      near_end = small_max span.end piece.area.yhi spans.near_end near.yhi;
      in_order = omega (arith, ints, clamps);
    }

module _ (rows : List Row) (pieces : List Piece) (k : ℕ) (y : ℤ) (last : k < length pieces) (apart : AllPairs (λ a b. AreDisjoint a.area b.area) pieces) where
  -- what holds of a row after so many pieces are set
  abbrev pub RowIsSet : ℕ → List Run → Type 0
  RowIsSet count runs = AreRuns edge runs × ((x : ℤ) → IsSetTo (take count pieces) (square_at x y) (number_at rows (square_at x y)) (value_at runs x))

  -- the next piece spans the row and is set
  pub row_set : (before after : List Run) → (get_or pieces k no_piece).area.ylo ≤ℤ y → y <ℤ (get_or pieces k no_piece).area.yhi
      → AreRunsWith (get_or pieces k no_piece) before after → RowIsSet k before → RowIsSet (k + 1) after
  row_set before after low high with_piece is =
      let piece = get_or pieces k no_piece in (
        with_piece.ordered,
        λ x.
            let square = square_at x y in
            let left : (Covers piece.area square → ⊥) → value_at after x ≡ value_at before x = λ none. with_piece.outside x
            (elim (at_most_or_greater piece.area.xlo x) [
              | inr less ↦ inl less
              | inl begun ↦ elim (at_most_or_greater piece.area.xhi x) [
                | inl past ↦ inr past
                | inr within ↦ absurd (none (record { right_of_xlo = begun; left_of_xhi = within; above_ylo = low; below_yhi = high }))
              ]
            ]) in
            subst (λ (done : List Piece). IsSetTo done square (number_at rows square) (value_at after x)) (sym (take_more pieces k no_piece last))
            (set_more (take k pieces) piece square (number_at rows square) (value_at before x) (value_at after x)
            (λ p i c d. related_to_next (λ (a b : Piece). AreDisjoint a.area b.area) pieces k no_piece p apart last i square c d)
            (λ c. with_piece.inside x c.right_of_xlo c.left_of_xhi) left (is.1 x)),
      )

  -- the next piece does not span the row
  pub row_kept : (before : List Run) → (y <ℤ (get_or pieces k no_piece).area.ylo) ⊎ ((get_or pieces k no_piece).area.yhi ≤ℤ y) → RowIsSet k before
      → RowIsSet (k + 1) before
  row_kept before out is =
      let piece = get_or pieces k no_piece in (
        is.0,
        λ x.
            let square = square_at x y in
            let none : Covers piece.area square → ⊥ = λ c.
            let low : piece.area.ylo ≤ℤ y = c.above_ylo in
            let high : y <ℤ piece.area.yhi = c.below_yhi in
            elim out [ inl p ↦ omega (arith, ints, p) | inr p ↦ omega (arith, ints, p) ] in
            subst (λ (done : List Piece). IsSetTo done square (number_at rows square) (value_at before x)) (sym (take_more pieces k no_piece last))
            (set_more (take k pieces) piece square (number_at rows square) (value_at before x) (value_at before x)
            (λ p i c d. none d) (λ c. absurd (none c)) (λ _. refl) (is.1 x)),
      )

module _ (rows : List Row) (pieces : List Piece) (k : ℕ) (last : k < length pieces) (apart : AllPairs (λ a b. AreDisjoint a.area b.area) pieces) where
  -- the next piece is set in a row
  row_with_set : (old new : Row) → IsRowWith rows (take k pieces) old → IsRowSet (get_or pieces k no_piece) old new → IsRowWith rows (take (k + 1) pieces) new
  row_with_set old new is set =
      let piece = get_or pieces k no_piece in
      let y = old.ylo in
      let before : RowIsSet rows pieces k y last apart k old.runs = (is.ordered, is.set) in
      let kept : (y <ℤ piece.area.ylo) ⊎ (piece.area.yhi ≤ℤ y) → IsRowWith rows (take (k + 1) pieces) new = λ out.
      let after = row_kept rows pieces k y last apart old.runs out before in
      let same : IsRowWith rows (take (k + 1) pieces) old = record { ordered = after.0; set = after.1 } in
      subst (IsRowWith rows (take (k + 1) pieces)) (sym (set.outside out)) same in
      elim (at_most_or_greater piece.area.ylo y) [
        | inr less ↦ kept (inl less)
        | inl low ↦ elim (at_most_or_greater piece.area.yhi y) [
          | inl past ↦ kept (inr past)
          | inr high ↦ (
              let after = row_set rows pieces k y last apart old.runs new.runs low high (set.inside low high) before in
              record {
                ordered = after.0;
                set = subst (λ (z : ℤ). (x : ℤ) → IsSetTo (take (k + 1) pieces) (square_at x z) (number_at rows (square_at x z)) (value_at new.runs x))
                    (sym set.height) after.1;
              })
        ]
      ]

  -- and in rows
  pub rows_set : (heights : List ℤ) (olds news : List Row) → AreRowsFor rows (take k pieces) heights olds
      → IsSetIn (get_or pieces k no_piece) olds news → AreRowsFor rows (take (k + 1) pieces) heights news
  rows_set [] [] [] are set = tt
  rows_set [] [] (new ∷ news) are set = absurd set
  rows_set [] (old ∷ olds) news are set = absurd are
  rows_set (height ∷ heights) [] news are set = absurd are
  rows_set (height ∷ heights) (old ∷ olds) [] are set = absurd set
  rows_set (height ∷ heights) (old ∷ olds) (new ∷ news) are set =
      (set.0.height ∙ are.0, row_with_set old new are.1 set.0, rows_set heights olds news are.2 set.1)

-- rows that are set place by place
pub set_by_place : (piece : Piece) (olds news : List Row) (d : Row) → length news ≡ length olds
    → ((k : ℕ) → k < length olds → IsRowSet piece (get_or olds k d) (get_or news k d)) → IsSetIn piece olds news
set_by_place piece [] [] d e each = tt
set_by_place piece [] (new ∷ news) d e each = absurd (omega arith)
set_by_place piece (old ∷ olds) [] d e each = absurd (omega arith)
set_by_place piece (old ∷ olds) (new ∷ news) d e each = (each 0 (omega arith), set_by_place piece olds news d (omega arith) (λ k p. each (suc k) (omega arith)))

-- the rows from first on and below index are set, and the others are as they were
pub record IsSetUpTo (piece : Piece) (first index : ℕ) (olds news : List Row) : Type 0 where
  pub long : length news ≡ length olds
  pub heights : (k : ℕ) → k < length olds → (get_or news k no_row).ylo ≡ (get_or olds k no_row).ylo
  pub done : (k : ℕ) → first ≤ k → k < index → k < length olds → AreRunsWith piece (get_or olds k no_row).runs (get_or news k no_row).runs
  pub rest : (k : ℕ) → (k < first) ⊎ (index ≤ k) → get_or news k no_row ≡ get_or olds k no_row

-- one more row is set
pub set_next : (piece : Piece) (first index : ℕ) (olds news : List Row) (row : Row) → first ≤ index → index < length olds
    → row.ylo ≡ (get_or news index no_row).ylo
    → AreRunsWith piece (get_or news index no_row).runs row.runs → IsSetUpTo piece first index olds news → IsSetUpTo piece first (index + 1) olds
    (set news index row)
set_next piece first index olds news row p q height runs is =
    let here : get_or news index no_row ≡ get_or olds index no_row = is.rest index (inr (omega arith)) in
    let within : index < length news = (let e = is.long in omega arith) in
    let at : get_or (set news index row) index no_row ≡ row = get_or-set_same news index row no_row within in
    let other : (k : ℕ) → k ≢ index → get_or (set news index row) k no_row ≡ get_or news k no_row = λ k n. get_or-set_other news index k row no_row n in
    record {
      long = length-set news index row ∙ is.long;
      heights = λ k r. elim (cases_eq k index) [
        | inl e ↦ subst (λ (n : ℕ). (get_or (set news index row) n no_row).ylo ≡ (get_or olds n no_row).ylo) (sym e)
            (ap (λ (r : Row). r.ylo) at ∙ height ∙ ap (λ (r : Row). r.ylo) here)
        | inr n ↦ ap (λ (r : Row). r.ylo) (other k n) ∙ is.heights k r
      ];
      done = λ k r s t. elim (cases_eq k index) [
        | inl e ↦ subst (λ (n : ℕ). AreRunsWith piece (get_or olds n no_row).runs (get_or (set news index row) n no_row).runs) (sym e)
            (subst (λ (v : Row). AreRunsWith piece (get_or olds index no_row).runs v.runs) (sym at)
            (subst (λ (v : Row). AreRunsWith piece v.runs row.runs) here runs))
        | inr n ↦ subst (λ (v : Row). AreRunsWith piece (get_or olds k no_row).runs v.runs) (sym (other k n)) (is.done k r (omega arith) t)
      ];
      rest = λ k out. elim out [
        | inl less ↦ (let n : k ≢ index = λ e. omega (arith, e, less) in other k n ∙ is.rest k (inl less))
        | inr more ↦ (let n : k ≢ index = λ e. omega (arith, e, more) in other k n ∙ is.rest k (inr (omega (arith, more))))
      ];
    }

at_take : {X : Type 0} (P : X → Type 0) (xs : List X) (n k : ℕ) (d : X) → All P (take n xs) → k < n → k < length xs → P (get_or xs k d)
at_take P xs n k d all p q = subst P (get_or-take n xs k d p) (all k d (omega (arith, length-take n xs)))

at_drop : {X : Type 0} (P : X → Type 0) (xs : List X) (n k : ℕ) (d : X) → All P (drop n xs) → n ≤ k → k < length xs → P (get_or xs k d)
at_drop {X} P xs n k d all p q =
    let same : n + (k - n) ≡ k = omega arith in
    subst P (get_or-drop n xs (k - n) d ∙ ap (λ (m : ℕ). get_or xs m d) same) (all (k - n) d (omega (arith, length-drop n xs)))

-- all rows that the piece spans are set
pub set_all : (piece : Piece) (first last index : ℕ) (olds news : List Row) → IsProper piece.area → first ≤ length olds → last ≤ length olds
    → All (λ row. row.ylo ≤ℤ (piece.area.ylo -ℤ pos 1)) (take first olds) → All (λ row. (piece.area.ylo -ℤ pos 1) <ℤ row.ylo) (drop first olds)
    → All (λ row. row.ylo ≤ℤ (piece.area.yhi -ℤ pos 1)) (take last olds) → All (λ row. (piece.area.yhi -ℤ pos 1) <ℤ row.ylo) (drop last olds)
    → last ≤ index → (first ≤ last → index ≤ last) → IsSetUpTo piece first index olds news → IsSetIn piece olds news
set_all piece first last index olds news proper q r below from_on up_to above over bound is =
    let tall : piece.area.ylo <ℤ piece.area.yhi = proper.high in
    let ylo_1 = piece.area.ylo -ℤ pos 1 in
    let yhi_1 = piece.area.yhi -ℤ pos 1 in
    let low_at : (k : ℕ) → k < first → k < length olds → (get_or olds k no_row).ylo ≤ℤ ylo_1 = λ k a b. at_take (λ row. row.ylo ≤ℤ ylo_1) olds first k
    no_row below a b in
    let from_at : (k : ℕ) → first ≤ k → k < length olds → ylo_1 <ℤ (get_or olds k no_row).ylo = λ k a b. at_drop (λ row. ylo_1 <ℤ row.ylo) olds first k
    no_row from_on a b in
    let high_at : (k : ℕ) → k < last → k < length olds → (get_or olds k no_row).ylo ≤ℤ yhi_1 = λ k a b. at_take (λ row. row.ylo ≤ℤ yhi_1) olds last k
    no_row up_to a b in
    let over_at : (k : ℕ) → last ≤ k → k < length olds → yhi_1 <ℤ (get_or olds k no_row).ylo = λ k a b. at_drop (λ row. yhi_1 <ℤ row.ylo) olds last k
    no_row above a b in
    let in_order : first ≤ last = elim (cases_lt last first) [
      | inr more ↦ more
      | inl less ↦ absurd (
          let a = low_at last less (omega (arith, less)) in
          let b = over_at last (omega arith) (omega (arith, less)) in
          omega (arith, ints, a, b))
    ] in
    let end = bound in_order in
    set_by_place piece olds news no_row is.long (λ k p. record {
      height = is.heights k p;
      inside = λ low high.
          let a : first ≤ k = elim (cases_lt k first) [ inr more ↦ more | inl less ↦ absurd (let h = low_at k less p in omega (arith, ints, h, low)) ] in
          let b : k < last = elim (cases_lt k last) [ inl less ↦ less | inr more ↦ absurd (let h = over_at k more p in omega (arith, ints, h, high)) ] in
          is.done k a (omega arith) p;
      outside = λ out. elim out [
        | inl less ↦ is.rest k (elim (cases_lt k first) [ inl h ↦ inl h | inr more ↦ absurd (let h = from_at k more p in omega (arith, ints, h, less)) ])
        | inr past ↦ is.rest k (elim (cases_lt k last) [
          | inl h ↦ absurd (let g = high_at k h p in omega (arith, ints, g, past))
          | inr more ↦
              inr (omega (arith, more))
        ])
      ];
    })

-- a row as it is before any piece is set
pub plain_row : (rows : List Row) (row : Row) → AreRising edge rows → row.runs ≡ runs_from [] rows row.ylo → IsRowWith rows [] row
plain_row rows row rising same = record {
  ordered = subst (AreRuns edge) (sym same) (runs_ordered edge [] rows row.ylo tt rising);
  set = λ x. record { set = λ p i. absurd i; other = λ none. ap (λ (v : List Run). value_at v x) same };
}
