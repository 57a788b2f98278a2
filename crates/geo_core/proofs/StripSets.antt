-- Strips of sets: of two sets with the same squares, of a set within a band of rows, and that each run lies in a strip.
use Rattle.geo_core.proofs.Common.{◌≡◌, inl, inr, ℕ, ℤ, pos, ◌+ℤ◌, ◌-ℤ◌, List, refl, sym, subst, arith, get_or, int_min, ints, clamps, AllPairs}
use Rattle.geo_core.proofs.Common.{In-get_or, Square, Rect, Covers, IsProper, IsStrip, StandsBefore, AreDisjoint}
use Rattle.std.proofs.Common.{◌⊎◌, zero, suc, negsuc, ◌≤ℤ◌, ◌<ℤ◌}
use Rattle.std.specs.Int.{int_max}
use Rattle.finite_sets.proofs.Orders.{Lexicographic-irreflexive, at_most_or_greater, equal_from_both, less-irreflexive}
use Rattle.geo_core.specs.Strips.{IsRun, IsStrips}
use Rattle.geo_core.proofs.SquareLaws.{rect_is}

-- a strip has a square
pub strip_is_proper : (S : Square → Type 0) (strip : Rect) → IsStrip S strip → IsProper strip
strip_is_proper S strip is =
    let high : strip.ylo <ℤ strip.yhi = is.high in
    let run = is.runs strip.ylo (omega (arith, ints)) high in
    record { wide = run.long; high = high }

-- a run of a set is a run of a set with the same squares
pub run_same : (S T : Square → Type 0) → ((s : Square) → S s → T s) → ((s : Square) → T s → S s) → (xlo xhi y : ℤ) → IsRun S xlo xhi y → IsRun T xlo xhi y
run_same S T to back xlo xhi y run = record {
  long = run.long;
  within = λ x p q. to (record { x = x; y = y }) (run.within x p q);
  left = λ t. run.left (back (record { x = xlo -ℤ pos 1; y = y }) t);
  right = λ t. run.right (back (record { x = xhi; y = y }) t);
}

-- a strip of a set is a strip of a set with the same squares
pub strip_same : (S T : Square → Type 0) → ((s : Square) → S s → T s) → ((s : Square) → T s → S s) → (area : Rect) → IsStrip S area → IsStrip T area
strip_same S T to back area strip = record {
  high = strip.high;
  runs = λ y p q. run_same S T to back area.xlo area.xhi y (strip.runs y p q);
  below = λ run. strip.below (run_same T S back to area.xlo area.xhi (area.ylo -ℤ pos 1) run);
  above = λ run. strip.above (run_same T S back to area.xlo area.xhi area.yhi run);
}

-- a list of the strips of a set is one of a set with the same squares
pub strips_same : (S T : Square → Type 0) → ((s : Square) → S s → T s) → ((s : Square) → T s → S s) → (areas : List Rect) → IsStrips S areas → IsStrips T areas
strips_same S T to back areas strips = record {
  each = λ area i. strip_same S T to back area (strips.each area i);
  every = λ area strip. strips.every area (strip_same T S back to area strip);
  whole = λ square t. strips.whole square (back square t);
  ordered = strips.ordered;
}

-- of two strips on the same columns that share a row neither begins below the other
begins_together : (S : Square → Type 0) (a b : Rect) → IsStrip S a → IsStrip S b → a.xlo ≡ b.xlo → a.xhi ≡ b.xhi → (y : ℤ) → a.ylo ≤ℤ y → y <ℤ a.yhi
    → b.ylo ≤ℤ y → y <ℤ b.yhi → b.ylo ≤ℤ a.ylo
begins_together S a b p q left right y a_low a_high b_low b_high = elim (at_most_or_greater b.ylo a.ylo) [
  | inl h ↦ h
  | inr less ↦ absurd (q.below (subst (λ (x : ℤ). IsRun S b.xlo x (b.ylo -ℤ pos 1)) right
      (subst (λ (x : ℤ). IsRun S x a.xhi (b.ylo -ℤ pos 1)) left (p.runs (b.ylo -ℤ pos 1) (omega (arith, ints, less)) (omega (arith, ints))))))
]

ends_together : (S : Square → Type 0) (a b : Rect) → IsStrip S a → IsStrip S b → a.xlo ≡ b.xlo → a.xhi ≡ b.xhi → (y : ℤ) → a.ylo ≤ℤ y → y <ℤ a.yhi
    → b.ylo ≤ℤ y → y <ℤ b.yhi → a.yhi ≤ℤ b.yhi
ends_together S a b p q left right y a_low a_high b_low b_high = elim (at_most_or_greater a.yhi b.yhi) [
  | inl h ↦ h
  | inr less ↦ absurd (q.above (subst (λ (x : ℤ). IsRun S b.xlo x b.yhi) right (subst (λ (x : ℤ). IsRun S x a.xhi b.yhi) left
      (p.runs b.yhi (omega (arith, ints)) less))))
]

-- strips on the same columns that share a row are one
pub one_strip : (S : Square → Type 0) (a b : Rect) → IsStrip S a → IsStrip S b → a.xlo ≡ b.xlo → a.xhi ≡ b.xhi → (y : ℤ) → a.ylo ≤ℤ y → y <ℤ a.yhi
    → b.ylo ≤ℤ y → y <ℤ b.yhi → a ≡ b
one_strip S a b p q left right y a_low a_high b_low b_high = rect_is a b left
    (equal_from_both a.ylo b.ylo (begins_together S b a q p (sym left) (sym right) y b_low b_high a_low a_high)
    (begins_together S a b p q left right y a_low a_high b_low b_high))
    right
    (equal_from_both a.yhi b.yhi (ends_together S a b p q left right y a_low a_high b_low b_high)
    (ends_together S b a q p (sym left) (sym right) y b_low b_high a_low a_high))

-- two runs of a row that share a square begin together
runs_begin : (S : Square → Type 0) (a b c d x y : ℤ) → IsRun S a b y → IsRun S c d y → a ≤ℤ x → x <ℤ b → c ≤ℤ x → x <ℤ d → c ≤ℤ a
runs_begin S a b c d x y p q p1 p2 q1 q2 = elim (at_most_or_greater c a) [
  | inl h ↦ h
  | inr less ↦ absurd (q.left (p.within (c -ℤ pos 1) (omega (arith, ints, less)) (omega (arith, ints))))
]

runs_end : (S : Square → Type 0) (a b c d x y : ℤ) → IsRun S a b y → IsRun S c d y → a ≤ℤ x → x <ℤ b → c ≤ℤ x → x <ℤ d → b ≤ℤ d
runs_end S a b c d x y p q p1 p2 q1 q2 = elim (at_most_or_greater b d) [
  | inl h ↦ h
  | inr less ↦ absurd (q.right (p.within d (omega (arith, ints)) less))
]

-- strips that share a square are one
pub one_strip_at : (S : Square → Type 0) (a b : Rect) → IsStrip S a → IsStrip S b → (square : Square) → Covers a square → Covers b square → a ≡ b
one_strip_at S a b p q square c d =
    let run = p.runs square.y c.above_ylo c.below_yhi in
    let run' = q.runs square.y d.above_ylo d.below_yhi in
    let begins : a.xlo ≡ b.xlo = equal_from_both a.xlo b.xlo
    (runs_begin S b.xlo b.xhi a.xlo a.xhi square.x square.y run' run d.right_of_xlo d.left_of_xhi c.right_of_xlo c.left_of_xhi)
    (runs_begin S a.xlo a.xhi b.xlo b.xhi square.x square.y run run' c.right_of_xlo c.left_of_xhi d.right_of_xlo d.left_of_xhi) in
    let ends : a.xhi ≡ b.xhi = equal_from_both a.xhi b.xhi
    (runs_end S a.xlo a.xhi b.xlo b.xhi square.x square.y run run' c.right_of_xlo c.left_of_xhi d.right_of_xlo d.left_of_xhi)
    (runs_end S b.xlo b.xhi a.xlo a.xhi square.x square.y run' run d.right_of_xlo d.left_of_xhi c.right_of_xlo c.left_of_xhi) in
    one_strip S a b p q begins ends square.y c.above_ylo c.below_yhi d.above_ylo d.below_yhi

-- a strip's squares are of the set
pub strip_within : (S : Square → Type 0) (area : Rect) → IsStrip S area → (x y : ℤ) → Covers area (record { x = x; y = y }) → S (record { x = x; y = y })
strip_within S area strip x y c = (strip.runs y c.above_ylo c.below_yhi).within x c.right_of_xlo c.left_of_xhi

-- how far high is above low
distance : (low high : ℤ) → low ≤ℤ high → (n : ℕ) × (high ≡ low +ℤ pos n)
distance low high p = go (high -ℤ low) refl
  where
    go : (d : ℤ) → d ≡ high -ℤ low → (n : ℕ) × (high ≡ low +ℤ pos n)
    go (pos n) e = (n, omega (arith, ints))
    go (negsuc n) e = absurd (omega (arith, ints))

module _ (S : Square → Type 0) (decide : (s : Square) → S s ⊎ (S s → ⊥)) where
  all_or_not : (y low high : ℤ) (n : ℕ) → high ≡ low +ℤ pos n
      → ((x : ℤ) → low ≤ℤ x → x <ℤ high → S (record { x = x; y = y })) ⊎ (((x : ℤ) → low ≤ℤ x → x <ℤ high → S (record { x = x; y = y })) → ⊥)
  all_or_not y low high zero e = inl (λ x p q. absurd (omega (arith, ints)))
  all_or_not y low high (suc n) e = elim (decide (record { x = low; y = y })) [
    | inr fails ↦ inr (λ all. fails (all low (omega (arith, ints)) (omega (arith, ints))))
    | inl holds ↦ elim (all_or_not y (low +ℤ pos 1) high n (omega (arith, ints))) [
      | inr fails ↦ inr (λ all. fails (λ x p q. all x (omega (arith, ints)) q))
      | inl rest ↦ inl (λ x p q. elim (at_most_or_greater (low +ℤ pos 1) x) [
        | inl later ↦ rest x later q
        | inr less ↦ (let same : low ≡ x = omega (arith, ints, less) in subst (λ (z : ℤ). S (record { x = z; y = y })) same holds)
      ])
    ]
  ]

  run_or_not : (xlo xhi y : ℤ) → IsRun S xlo xhi y ⊎ (IsRun S xlo xhi y → ⊥)
  run_or_not xlo xhi y = elim (at_most_or_greater xhi xlo) [
    | inl short ↦ inr (λ run. let long : xlo <ℤ xhi = run.long in omega (arith, ints, short))
    | inr long ↦ (let d = distance xlo xhi (omega (arith, ints, long)) in
        elim (all_or_not y xlo xhi d.0 d.1) [
          | inr fails ↦ inr (λ run. fails run.within)
          | inl all ↦ elim (decide (record { x = xlo -ℤ pos 1; y = y })) [
            | inl holds ↦ inr (λ run. run.left holds)
            | inr left ↦ elim (decide (record { x = xhi; y = y })) [
              | inl holds ↦ inr (λ run. run.right holds)
              | inr right ↦ inl (record { long = long; within = all; left = left; right = right })
            ]
          ]
        ])
  ]

  module _ (xlo xhi : ℤ) where
    Run : ℤ → Type 0
    Run y = IsRun S xlo xhi y

    record Below (y : ℤ) : Type 0 where
      first : ℤ
      no_higher : first ≤ℤ y
      runs : (z : ℤ) → first ≤ℤ z → z ≤ℤ y → IsRun S xlo xhi z
      end : IsRun S xlo xhi (first -ℤ pos 1) → ⊥

    record Above (y : ℤ) : Type 0 where
      last : ℤ
      higher : y <ℤ last
      runs : (z : ℤ) → y ≤ℤ z → z <ℤ last → IsRun S xlo xhi z
      end : IsRun S xlo xhi last → ⊥

    here : (y z : ℤ) → y ≤ℤ z → z ≤ℤ y → IsRun S xlo xhi y → IsRun S xlo xhi z
    here y z p q run = subst (IsRun S xlo xhi) (equal_from_both y z p q) run

    down : (n : ℕ) (bottom y : ℤ) → y ≡ bottom +ℤ pos n → ((z : ℤ) → z <ℤ bottom → IsRun S xlo xhi z → ⊥) → IsRun S xlo xhi y → Below y
    down zero bottom y e none run = record {
      first = y;
      no_higher = omega (arith, ints);
      runs = λ z p q. here y z p q run;
      end = none (y -ℤ pos 1)
          (omega (arith, ints));
    }
    down (suc n) bottom y e none run = elim (run_or_not xlo xhi (y -ℤ pos 1)) [
      | inr fails ↦ record { first = y; no_higher = omega (arith, ints); runs = λ z p q. here y z p q run; end = fails }
      | inl more ↦ (let rest = down n bottom (y -ℤ pos 1) (omega (arith, ints)) none more in
          let lower : rest.first ≤ℤ (y -ℤ pos 1) = rest.no_higher in
          record {
            first = rest.first;
            no_higher = omega (arith, ints);
            runs = λ z p q. elim (at_most_or_greater y z) [ inl at ↦ here y z at q run | inr less ↦ rest.runs z p (omega (arith, ints, less)) ];
            end = rest.end;
          })
    ]

    up : (n : ℕ) (top y : ℤ) → top ≡ y +ℤ pos n → ((z : ℤ) → top ≤ℤ z → IsRun S xlo xhi z → ⊥) → IsRun S xlo xhi y → Above y
    up zero top y e none run = absurd (none y (omega (arith, ints)) run)
    up (suc n) top y e none run = elim (run_or_not xlo xhi (y +ℤ pos 1)) [
      | inr fails ↦ record { last = y +ℤ pos 1; higher = omega (arith, ints); runs = λ z p q. here y z p (omega (arith, ints)) run; end = fails }
      | inl more ↦ (let rest = up n top (y +ℤ pos 1) (omega (arith, ints)) none more in
          let upper : (y +ℤ pos 1) <ℤ rest.last = rest.higher in
          record {
            last = rest.last;
            higher = omega (arith, ints);
            runs = λ z p q. elim (at_most_or_greater z y) [ inl at ↦ here y z p at run | inr more' ↦ rest.runs z (omega (arith, ints, more')) q ];
            end = rest.end;
          })
    ]

  -- a strip on these columns with this row
  pub record StripThrough (xlo xhi y : ℤ) : Type 0 where
    pub area : Rect
    pub is_strip : IsStrip S area
    pub left : area.xlo ≡ xlo
    pub right : area.xhi ≡ xhi
    pub low : area.ylo ≤ℤ y
    pub high : y <ℤ area.yhi

  -- each run of a set that lies between two heights is part of a strip
  pub strip_of_run : (bottom top xlo xhi y : ℤ) → bottom ≤ℤ y → y <ℤ top → ((s : Square) → S s → (bottom ≤ℤ s.y) × (s.y <ℤ top)) → IsRun S xlo xhi y
      → StripThrough xlo xhi y
  strip_of_run bottom top xlo xhi y p q bounded run =
      let first_square : (z : ℤ) → IsRun S xlo xhi z → S (record { x = xlo; y = z }) = λ z r. let long : xlo <ℤ xhi = r.long in r.within xlo
      (omega (arith, ints)) long in
      let lower = distance bottom y p in
      let upper = distance y top (omega (arith, ints)) in
      let b = down xlo xhi lower.0 bottom y lower.1 (λ z less r. let at : bottom ≤ℤ z = (bounded (record { x = xlo; y = z }) (first_square z r)).0 in
      omega (arith, ints)) run in
      let a = up xlo xhi upper.0 top y upper.1 (λ z more r. let at : z <ℤ top = (bounded (record { x = xlo; y = z }) (first_square z r)).1 in
      omega (arith, ints)) run in
      let low : b.first ≤ℤ y = b.no_higher in
      let high : y <ℤ a.last = a.higher in
      record {
        area = record { xlo = xlo; ylo = b.first; xhi = xhi; yhi = a.last };
        is_strip = record {
          high = omega (arith, ints);
          runs = λ z r s. elim (at_most_or_greater z y) [ inl under ↦ b.runs z r under | inr over ↦ a.runs z (omega (arith, ints, over)) s ];
          below = b.end;
          above = a.end;
        };
        left = refl;
        right = refl;
        low = low;
        high = high;
      }

-- the squares of a set in the rows from low on and below high
abbrev pub InBand : (Square → Type 0) → ℤ → ℤ → Square → Type 0
InBand S low high square = S square × (low ≤ℤ square.y) × (square.y <ℤ high)

-- the part of a rectangle in these rows
abbrev pub clipped : ℤ → ℤ → Rect → Rect
clipped low high area = record { xlo = area.xlo; ylo = int_max area.ylo low; xhi = area.xhi; yhi = int_min area.yhi high }

module _ (S : Square → Type 0) (low high : ℤ) where
  run_to_band : (xlo xhi y : ℤ) → low ≤ℤ y → y <ℤ high → IsRun S xlo xhi y → IsRun (InBand S low high) xlo xhi y
  run_to_band xlo xhi y p q run = record { long = run.long; within = λ x r s. (run.within x r s, p, q); left = λ t. run.left t.0; right = λ t. run.right t.0 }

  run_in_band : (xlo xhi y : ℤ) → IsRun (InBand S low high) xlo xhi y → (low ≤ℤ y) × (y <ℤ high)
  run_in_band xlo xhi y run = let long : xlo <ℤ xhi = run.long in let first = run.within xlo (omega (arith, ints)) long in (first.1, first.2)

  run_from_band : (xlo xhi y : ℤ) → IsRun (InBand S low high) xlo xhi y → IsRun S xlo xhi y
  run_from_band xlo xhi y run =
      let at = run_in_band xlo xhi y run in
      record { long = run.long; within = λ x r s. (run.within x r s).0; left = λ t. run.left (t, at.0, at.1); right = λ t. run.right (t, at.0, at.1) }

  -- the part of a strip in the band is a strip of the part of the set
  pub strip_clipped : (area : Rect) → IsStrip S area → int_max area.ylo low <ℤ int_min area.yhi high → IsStrip (InBand S low high) (clipped low high area)
  strip_clipped area strip tall = record {
    high = tall;
    runs = λ y p q. run_to_band area.xlo area.xhi y (omega (arith, ints, clamps)) (omega (arith, ints, clamps))
        (strip.runs y (omega (arith, ints, clamps)) (omega (arith, ints, clamps)));
    below = λ run. let at = (run_in_band area.xlo area.xhi (int_max area.ylo low -ℤ pos 1) run).0 in
        let same : int_max area.ylo low -ℤ pos 1 ≡ area.ylo -ℤ pos 1 = omega (arith, ints, clamps) in
        strip.below (subst (IsRun S area.xlo area.xhi) same (run_from_band area.xlo area.xhi (int_max area.ylo low -ℤ pos 1) run));
    above = λ run. let at = (run_in_band area.xlo area.xhi (int_min area.yhi high) run).1 in
        let same : int_min area.yhi high ≡ area.yhi = omega (arith, ints, clamps) in
        strip.above (subst (IsRun S area.xlo area.xhi) same (run_from_band area.xlo area.xhi (int_min area.yhi high) run));
  }

  -- a strip of the part is the part of a strip
  pub strip_of_band : ((s : Square) → S s ⊎ (S s → ⊥)) → (bottom top : ℤ) → ((s : Square) → S s → (bottom ≤ℤ s.y) × (s.y <ℤ top))
      → (part : Rect) → IsStrip (InBand S low high) part → (area : Rect) × IsStrip S area × (clipped low high area ≡ part)
  strip_of_band decide bottom top bounded part strip =
      let tall : part.ylo <ℤ part.yhi = strip.high in
      let y = part.ylo in
      let run = strip.runs y (omega (arith, ints)) tall in
      let at = run_in_band part.xlo part.xhi y run in
      let run' = run_from_band part.xlo part.xhi y run in
      let long : part.xlo <ℤ part.xhi = run'.long in
      let in_set = bounded (record { x = part.xlo; y = y }) (run'.within part.xlo (omega (arith, ints)) long) in
      let found = strip_of_run S decide bottom top part.xlo part.xhi y in_set.0 in_set.1 bounded run' in
      let from : found.area.ylo ≤ℤ y = found.low in
      let to : y <ℤ found.area.yhi = found.high in
      let in_low : low ≤ℤ y = at.0 in
      let in_high : y <ℤ high = at.1 in
      let tall' : int_max found.area.ylo low <ℤ int_min found.area.yhi high = omega (arith, ints, clamps) in (
        found.area,
        found.is_strip,
        one_strip (InBand S low high) (clipped low high found.area) part (strip_clipped found.area found.is_strip tall') strip found.left found.right y
            (omega (arith, ints, clamps)) (omega (arith, ints, clamps)) (omega (arith, ints)) tall,
      )

-- no rectangle stands before itself
pub StandsBefore-irreflexive : (a : Rect) → StandsBefore a a → ⊥
StandsBefore-irreflexive a = Lexicographic-irreflexive a.ylo (less-irreflexive a.xlo)

-- strips of a set share no square
pub strips_apart : (S : Square → Type 0) (strips : List Rect) → IsStrips S strips → AllPairs AreDisjoint strips
strips_apart S strips are i j default less below square in_first in_second =
    let a = get_or strips i default in
    let b = get_or strips j default in
    let first = are.each a (In-get_or strips i default (omega (arith, less, below))) in
    let second = are.each b (In-get_or strips j default below) in
    StandsBefore-irreflexive a (subst (StandsBefore a) (sym (one_strip_at S a b first second square in_first in_second)) (are.ordered i j default less below))
