-- From bars of a set of squares to its strips.
use Rattle.geo_strips.proofs.Common.{◌≡◌, ◌⊎◌, inl, inr, ℤ, pos, ◌-ℤ◌, ◌≤ℤ◌, ◌<ℤ◌, List, [], ◌∷◌, map, refl, sym, ◌∙◌, ap, subst, arith, ints}
use Rattle.geo_strips.proofs.Common.{by_lt_z, In, In-map, Square, Rect, Bar, IsRun, IsStrip, HaveSquare, AreRunBars, Pairwise}
use Rattle.geo_core.proofs.SquareLaws.{rect_is}
use Rattle.geo_strips.proofs.JoinLaws.{LieApart, AreLong, AreJoined}

-- the square in this column and row
abbrev pub at : ℤ → ℤ → Square
at x y = record { x = x; y = y }

-- two bars of a list that lies apart are the same, or lie apart
pub one_or_apart : (bars : List Bar) → Pairwise LieApart bars → (a b : Bar) → In a bars → In b bars → (a ≡ b) ⊎ LieApart a b
one_or_apart [] h a b i j = absurd i
one_or_apart (x ∷ xs) h a b (inl e) (inl f) = inl (sym e ∙ f)
one_or_apart (x ∷ xs) h a b (inl e) (inr j) = inr (subst (λ v. LieApart v b) e (h.0 b j))
one_or_apart (x ∷ xs) h a b (inr i) (inl f) =
    let other : LieApart b a = subst (λ v. LieApart v a) f (h.0 a i) in
    inr (λ e g. elim (other (sym e) (sym g)) [ inl k ↦ inr k | inr k ↦ inl k ])
one_or_apart (x ∷ xs) h a b (inr i) (inr j) = one_or_apart xs h.1 a b i j

-- bars of columns, each of whose rows is a run of the set
pub record AreColumns (S : Square → Type 0) (columns : List Bar) : Type 0 where
  pub long : AreLong columns
  pub runs : (column : Bar) → In column columns → (y : ℤ) → column.from ≤ℤ y → y <ℤ column.to → IsRun S column.low column.high y
  pub complete : (x y : ℤ) → S (at x y) → HaveSquare columns x y
  pub apart : Pairwise LieApart columns

-- joining bars of one width makes columns of runs
pub columns_from_bars : (S : Square → Type 0) (bars upright columns : List Bar) → AreRunBars S bars → ((bar : Bar) → In bar upright → In bar bars)
    → ((bar : Bar) → In bar bars → In bar upright)
    → AreJoined upright columns → AreColumns S columns
columns_from_bars S bars upright columns are there back join = record {
  long = join.long;
  runs = λ column i y from to.
      let p = join.adds_none column.low column.high y (record {
        bar = column;
        in_list = i;
        has = record { low_is = refl; high_is = refl; from_no_later = from; to_later = to };
      }) in
      let found = are.runs p.bar (there p.bar p.in_list) y p.has.from_no_later p.has.to_later in
      subst (λ v. IsRun S v column.high y) p.has.low_is (subst (λ v. IsRun S p.bar.low v y) p.has.high_is found);
  complete = λ x y s.
      let one = are.complete x y s in
      let p = join.keeps one.bar.low one.bar.high y (record {
        bar = one.bar;
        in_list = back one.bar one.in_list;
        has = record { low_is = refl; high_is = refl; from_no_later = one.from; to_later = one.to };
      }) in
      let low : p.bar.low ≡ one.bar.low = p.has.low_is in
      let high : p.bar.high ≡ one.bar.high = p.has.high_is in
      let left : one.bar.low ≤ℤ x = one.left in
      let right : x <ℤ one.bar.high = one.right in
      record { bar = p.bar; in_list = p.in_list; left = omega (arith, ints); right = omega (arith, ints); from = p.has.from_no_later; to = p.has.to_later };
  apart = join.apart;
}

-- two runs of one row that share a square are the same
run_left : (S : Square → Type 0) (a b c d y : ℤ) → IsRun S a b y → IsRun S c d y → (x : ℤ) → a ≤ℤ x → x <ℤ b → c ≤ℤ x → x <ℤ d → a <ℤ c → ⊥
run_left S a b c d y p q x h i j k less = q.left (p.within (c -ℤ pos 1) (omega (arith, ints)) (omega (arith, ints)))

run_right : (S : Square → Type 0) (a b c d y : ℤ) → IsRun S a b y → IsRun S c d y → (x : ℤ) → a ≤ℤ x → x <ℤ b → c ≤ℤ x → x <ℤ d → d <ℤ b → ⊥
run_right S a b c d y p q x h i j k less = q.right (p.within d (omega (arith, ints)) less)

equal_from_neither : (a b : ℤ) → (a <ℤ b → ⊥) → (b <ℤ a → ⊥) → a ≡ b
equal_from_neither a b p q = by_lt_z a b (λ h. absurd (p h)) (λ h. by_lt_z b a (λ k. absurd (q k)) (λ k. omega (arith, ints)))

-- runs of one row that share a square begin together
pub same_left : (S : Square → Type 0) (a b c d y x : ℤ) → IsRun S a b y → IsRun S c d y → a ≤ℤ x → x <ℤ b → c ≤ℤ x → x <ℤ d → a ≡ c
same_left S a b c d y x p q h i j k = equal_from_neither a c (run_left S a b c d y p q x h i j k) (run_left S c d a b y q p x j k h i)

-- and end together
pub same_right : (S : Square → Type 0) (a b c d y x : ℤ) → IsRun S a b y → IsRun S c d y → a ≤ℤ x → x <ℤ b → c ≤ℤ x → x <ℤ d → b ≡ d
same_right S a b c d y x p q h i j k = equal_from_neither b d (run_right S c d a b y q p x j k h i) (run_right S a b c d y p q x h i j k)

-- the rectangle of a column
abbrev pub rect_of_column : Bar → Rect
rect_of_column column = record { xlo = column.low; ylo = column.from; xhi = column.high; yhi = column.to }

-- a column of this width with this row
pub record ColumnAt (columns : List Bar) (xlo xhi y : ℤ) : Type 0 where
  pub column : Bar
  pub in_list : In column columns
  pub low : column.low ≡ xlo
  pub high : column.high ≡ xhi
  pub from : column.from ≤ℤ y
  pub to : y <ℤ column.to

module _ (S : Square → Type 0) (columns : List Bar) (are : AreColumns S columns) where
  -- a run of the set in some row lies in a column of its width
  column_of_run : (xlo xhi y : ℤ) → IsRun S xlo xhi y → ColumnAt columns xlo xhi y
  column_of_run xlo xhi y run =
      let long : xlo <ℤ xhi = run.long in
      let p = are.complete xlo y (run.within xlo (omega (arith, ints)) long) in
      let other = are.runs p.bar p.in_list y p.from p.to in
      record {
        column = p.bar;
        in_list = p.in_list;
        low = same_left S p.bar.low p.bar.high xlo xhi y xlo other run p.left p.right (omega (arith, ints)) long;
        high = same_right S p.bar.low p.bar.high xlo xhi y xlo other run p.left p.right (omega (arith, ints)) long;
        from = p.from;
        to = p.to;
      }

  -- no column of the same width touches a column
  no_more : (column : Bar) → In column columns → (y : ℤ) → (y ≡ column.to) ⊎ (y ≡ column.from -ℤ pos 1) → IsRun S column.low column.high y → ⊥
  no_more column i y beside run =
      let p = column_of_run column.low column.high y run in
      let from : p.column.from ≤ℤ y = p.from in
      let to : y <ℤ p.column.to = p.to in
      let long : column.from <ℤ column.to = are.long column i in
      elim (one_or_apart columns are.apart column p.column i p.in_list) [
        | inl e ↦ (let same_from : column.from ≡ p.column.from = ap (λ b. b.from) e in
            let same_to : column.to ≡ p.column.to = ap (λ b. b.to) e in
            elim beside [ inl f ↦ omega (arith, ints, f) | inr f ↦ omega (arith, ints, f) ])
        | inr apart ↦ elim (apart (sym p.low) (sym p.high)) [
          | inl before ↦ elim beside [ inl f ↦ omega (arith, ints, f, before) | inr f ↦ omega (arith, ints, f, before) ]
          | inr after ↦ elim beside [ inl f ↦ omega (arith, ints, f, after) | inr f ↦ omega (arith, ints, f, after) ]
        ]
      ]

  pub column_is_strip : (column : Bar) → In column columns → IsStrip S (rect_of_column column)
  column_is_strip column i = record {
    high = are.long column i;
    runs = are.runs column i;
    below = no_more column i (column.from -ℤ pos 1) (inr refl);
    above = no_more column i column.to (inl refl);
  }

  -- strips of one width that share a row are the same
  strip_from : (a b : Rect) → IsStrip S a → IsStrip S b → a.xlo ≡ b.xlo → a.xhi ≡ b.xhi → (y : ℤ) → a.ylo ≤ℤ y → y <ℤ a.yhi → b.ylo ≤ℤ y → y <ℤ b.yhi
      → a.ylo <ℤ b.ylo → ⊥
  strip_from a b p q e f y h i j k less =
      q.below (subst (λ v. IsRun S v b.xhi (b.ylo -ℤ pos 1)) e (subst (λ v. IsRun S a.xlo v (b.ylo -ℤ pos 1)) f
      (p.runs (b.ylo -ℤ pos 1) (omega (arith, ints)) (omega (arith, ints)))))

  strip_to : (a b : Rect) → IsStrip S a → IsStrip S b → a.xlo ≡ b.xlo → a.xhi ≡ b.xhi → (y : ℤ) → a.ylo ≤ℤ y → y <ℤ a.yhi → b.ylo ≤ℤ y → y <ℤ b.yhi
      → b.yhi <ℤ a.yhi → ⊥
  strip_to a b p q e f y h i j k less =
      q.above (subst (λ v. IsRun S v b.xhi b.yhi) e (subst (λ v. IsRun S a.xlo v b.yhi) f (p.runs b.yhi (omega (arith, ints)) less)))

  pub strip_is_column : (area : Rect) → IsStrip S area → In area (map rect_of_column columns)
  strip_is_column area strip =
      let high : area.ylo <ℤ area.yhi = strip.high in
      let p = column_of_run area.xlo area.xhi area.ylo (strip.runs area.ylo (omega (arith, ints)) high) in
      let other = rect_of_column p.column in
      let it = column_is_strip p.column p.in_list in
      let first : area.ylo ≤ℤ area.ylo = omega (arith, ints) in
      let low = equal_from_neither other.ylo area.ylo
      (strip_from other area it strip p.low p.high area.ylo p.from p.to first high)
      (strip_from area other strip it (sym p.low) (sym p.high) area.ylo first high p.from p.to) in
      let top = equal_from_neither other.yhi area.yhi
      (strip_to area other strip it (sym p.low) (sym p.high) area.ylo first high p.from p.to)
      (strip_to other area it strip p.low p.high area.ylo p.from p.to first high) in
      subst (λ r. In r (map rect_of_column columns)) (rect_is other area p.low low p.high top) (In-map rect_of_column p.column columns p.in_list)
