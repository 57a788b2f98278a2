-- Rectangles that stand in rows are disjoint.
use Rattle.std.proofs.Common.{◌≡◌, ℕ, zero, suc, ◌<◌, ◌≤ℤ◌, ◌<ℤ◌, List, ◌⊎◌, length, get_or, inl, inr, ◌∙◌, subst, arith}
use Rattle.std.specs.Prelude.{All, AllPairs}
use Rattle.std.proofs.lemmas.Bool.{cases_lt}
use Rattle.std.proofs.lemmas.Int.{ints}
use Rattle.geo_core.specs.declared.squares.Rect.{Rect}
use Rattle.geo_core.specs.Covering.{IsProper}
use Rattle.geo_core.specs.Areas.{AreDisjoint}

abbrev pub GoesOn : Rect → Rect → Type 0
GoesOn a b = (a.yhi ≤ℤ b.ylo) ⊎ ((a.ylo ≡ b.ylo) × (a.yhi ≡ b.yhi) × (a.xhi ≤ℤ b.xlo))

GoesOn-trans : (a b c : Rect) → IsProper b → GoesOn a b → GoesOn b c → GoesOn a c
GoesOn-trans a b c p (inl h) (inl k) = let high : b.ylo <ℤ b.yhi = p.high in inl (omega (arith, ints))
GoesOn-trans a b c p (inl h) (inr k) = let low : b.ylo ≡ c.ylo = k.0 in inl (omega (arith, ints))
GoesOn-trans a b c p (inr h) (inl k) = let top : a.yhi ≡ b.yhi = h.1 in inl (omega (arith, ints))
GoesOn-trans a b c p (inr h) (inr k) =
    let wide : b.xlo <ℤ b.xhi = p.wide in
    let first : a.xhi ≤ℤ b.xlo = h.2 in
    let second : b.xhi ≤ℤ c.xlo = k.2 in
    inr (h.0 ∙ k.0, h.1 ∙ k.1, omega (arith, ints))

disjoint_from_goes_on : (a b : Rect) → GoesOn a b → AreDisjoint a b
disjoint_from_goes_on a b (inl h) = λ q p r. let u : q.y <ℤ a.yhi = p.below_yhi in let v : b.ylo ≤ℤ q.y = r.above_ylo in omega (arith, ints)
disjoint_from_goes_on a b (inr h) = λ q p r.
    let u : q.x <ℤ a.xhi = p.left_of_xhi in let v : b.xlo ≤ℤ q.x = r.right_of_xlo in let left : a.xhi ≤ℤ b.xlo = h.2 in omega (arith, ints)

-- where each goes on from the one before, each goes on from all before
goes_on_far : (rects : List Rect) (d : Rect) → All IsProper rects → ((k : ℕ) → suc k < length rects → GoesOn (get_or rects k d) (get_or rects (suc k) d))
    → (i j : ℕ) → i < j → j < length rects → GoesOn (get_or rects i d) (get_or rects j d)
goes_on_far rects d proper next i zero less below = absurd (omega arith)
goes_on_far rects d proper next i (suc j) less below =
    elim (cases_lt i j) [
      | inl before ↦ GoesOn-trans (get_or rects i d) (get_or rects j d) (get_or rects (suc j) d) (proper j d (omega arith))
          (goes_on_far rects d proper next i j before (omega arith)) (next j below)
      | inr after ↦ let same : j ≡ i = omega arith in subst (λ (m : ℕ). GoesOn (get_or rects m d) (get_or rects (suc j) d)) same (next j below)
    ]

pub disjoint_in_rows : (rects : List Rect) → All IsProper rects
    → ((k : ℕ) (d : Rect) → suc k < length rects → GoesOn (get_or rects k d) (get_or rects (suc k) d))
    → AllPairs AreDisjoint rects
disjoint_in_rows rects proper next = λ i j d less below.
    disjoint_from_goes_on (get_or rects i d) (get_or rects j d) (goes_on_far rects d proper (λ k. next k d) i j less below)
