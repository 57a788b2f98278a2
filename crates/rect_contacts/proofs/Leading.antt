-- How many edges lead from the squares of one rectangle to those of another, or of the same.
use Rattle.rect_contacts.proofs.Common.{◌≡◌, ◌≢◌, ℤ, pos, ◌+ℤ◌, ◌-ℤ◌, ◌*ℤ◌, ◌≤ℤ◌, ◌<ℤ◌, ◌⊎◌, inl, inr, refl, sym, ◌∙◌, ap, arith, zero-*ℤ, *ℤ-zero}
use Rattle.rect_contacts.proofs.Common.{ints, clamps, by_lt_z, Square, Rect, Covers, is_covered, IsProper, sum_on, one_if, pairs_of, Lists-iff}
use Rattle.rect_contacts.proofs.Common.{squares_of, edges_between}
use Rattle.std.proofs.Common.{neg_ℤ}
use Rattle.std.proofs.Math.IntN.{pred_ℤ, *ℤ_comm, pred_ℤ-*ℤ, -ℤ_one}
use Rattle.geo_core.specs.Neighbours.{right_of, left_of, above, below}
use Rattle.geo_core.specs.FiniteSets.Range.{IsBetween, integer_range}
use Rattle.geo_core.proofs.FiniteSets.Listings.{Lists-image}
use Rattle.geo_core.proofs.FiniteSets.Sums.{sum_on-add, sum_on-zero, sum_on-map, sum_on-count}
use Rattle.geo_core.proofs.FiniteSets.Ranges.{extent_up, length-integer_range, Lists-rectangle}
use Rattle.rect_contacts.specs.Contacts.{overlap, shared_beside, shared_upon}
use Rattle.rect_contacts.specs.EdgeLaws.{SquaresAreCovered, AreaCountsSquares, SharedLengthCountsEdges, PerimeterLeadsOut}
use Rattle.rect_contacts.proofs.Apart.{AreApart, AreApart-sym, apart_from_disjoint}
use Rattle.rect_contacts.proofs.Counting.{count_moved, sum_on-pairs_of}
use Rattle.rect_contacts.proofs.Intervals.{overlap-comm, overlap-before, overlap-after}
use Rattle.rect_contacts.proofs.Shared.{shared_beside-cases, shared_upon-cases}

-- how many edges lead to the right, and how many upward
abbrev rightward : Rect → Rect → ℤ
rightward a b = overlap (a.xlo +ℤ pos 1) (a.xhi +ℤ pos 1) b.xlo b.xhi *ℤ overlap a.ylo a.yhi b.ylo b.yhi

abbrev upward : Rect → Rect → ℤ
upward a b = overlap a.xlo a.xhi b.xlo b.xhi *ℤ overlap (a.ylo +ℤ pos 1) (a.yhi +ℤ pos 1) b.ylo b.yhi

-- one interval moved back meets another as that one moved on meets it
moved_back : (lo hi lo' hi' : ℤ) → overlap (lo +ℤ neg_ℤ (pos 1)) (hi +ℤ neg_ℤ (pos 1)) lo' hi' ≡ overlap (lo' +ℤ pos 1) (hi' +ℤ pos 1) lo hi
unfolding overlap
moved_back lo hi lo' hi' = omega (arith, ints, clamps)

not_moved : (lo hi lo' hi' : ℤ) → overlap (lo +ℤ pos 0) (hi +ℤ pos 0) lo' hi' ≡ overlap lo hi lo' hi'
not_moved lo hi lo' hi' =
    let low : lo +ℤ pos 0 ≡ lo = omega (arith, ints) in
    let high : hi +ℤ pos 0 ≡ hi = omega (arith, ints) in
    λ k. overlap (low k) (high k) lo' hi'

by_itself : (x : ℤ) → x ≡ x +ℤ pos 0
by_itself x = omega (arith, ints)

one_back : (x : ℤ) → x -ℤ pos 1 ≡ x +ℤ neg_ℤ (pos 1)
one_back x = omega (arith, ints)

module _ (a b : Rect) (p : IsProper a) where
  to_right : sum_on (λ square. one_if (is_covered b (right_of square))) (squares_of a) ≡ rightward a b
  to_right =
      count_moved (λ x. x +ℤ pos 1) (λ y. y) (pos 1) (pos 0) (λ x. refl) by_itself a b p
      ∙ ap (λ (z : ℤ). overlap (a.xlo +ℤ pos 1) (a.xhi +ℤ pos 1) b.xlo b.xhi *ℤ z) (not_moved a.ylo a.yhi b.ylo b.yhi)

  to_left : sum_on (λ square. one_if (is_covered b (left_of square))) (squares_of a) ≡ rightward b a
  to_left =
      let across = moved_back a.xlo a.xhi b.xlo b.xhi in
      let along = not_moved a.ylo a.yhi b.ylo b.yhi ∙ overlap-comm a.ylo a.yhi b.ylo b.yhi in
      count_moved (λ x. x -ℤ pos 1) (λ y. y) (neg_ℤ (pos 1)) (pos 0) one_back by_itself a b p ∙ (λ k. across k *ℤ along k)

  to_top : sum_on (λ square. one_if (is_covered b (above square))) (squares_of a) ≡ upward a b
  to_top =
      count_moved (λ x. x) (λ y. y +ℤ pos 1) (pos 0) (pos 1) by_itself (λ y. refl) a b p
      ∙ ap (λ (z : ℤ). z *ℤ overlap (a.ylo +ℤ pos 1) (a.yhi +ℤ pos 1) b.ylo b.yhi) (not_moved a.xlo a.xhi b.xlo b.xhi)

  to_bottom : sum_on (λ square. one_if (is_covered b (below square))) (squares_of a) ≡ upward b a
  to_bottom =
      let across = not_moved a.xlo a.xhi b.xlo b.xhi ∙ overlap-comm a.xlo a.xhi b.xlo b.xhi in
      let along = moved_back a.ylo a.yhi b.ylo b.yhi in
      count_moved (λ x. x) (λ y. y -ℤ pos 1) (pos 0) (neg_ℤ (pos 1)) by_itself one_back a b p ∙ (λ k. across k *ℤ along k)

  -- the edges in all four directions
  edges_by_direction : edges_between a b ≡ (rightward a b +ℤ rightward b a) +ℤ (upward a b +ℤ upward b a)
  edges_by_direction =
      let n : Square → ℤ = λ square. one_if (is_covered b square) in
      let all = squares_of a in
      sum_on-add (λ q. n (right_of q)) (λ q. n (left_of q) +ℤ (n (above q) +ℤ (n (below q) +ℤ pos 0))) all
      ∙ (λ k. to_right k +ℤ (sum_on-add (λ q. n (left_of q)) (λ q. n (above q) +ℤ (n (below q) +ℤ pos 0)) all
      ∙ (λ l. to_left l +ℤ (sum_on-add (λ q. n (above q)) (λ q. n (below q) +ℤ pos 0) all
      ∙ (λ m. to_top m +ℤ (sum_on-add (λ q. n (below q)) (λ q. pos 0) all
      ∙ (λ o. to_bottom o +ℤ sum_on-zero all o)) m)) l)) k)
      ∙ regroup (rightward a b) (rightward b a) (upward a b) (upward b a)
    where
      regroup : (r l u d : ℤ) → r +ℤ (l +ℤ (u +ℤ (d +ℤ pos 0))) ≡ (r +ℤ l) +ℤ (u +ℤ d)
      regroup r l u d = omega (arith, ints)

-- of an interval that ends where another begins, the last integer leads into the other
last_one : (lo hi lo' hi' : ℤ) → lo <ℤ hi → lo' <ℤ hi' → hi ≡ lo' → overlap (lo +ℤ pos 1) (hi +ℤ pos 1) lo' hi' ≡ pos 1
unfolding overlap
last_one lo hi lo' hi' p q e = omega (arith, ints, clamps)

one-*ℤ : (m : ℤ) → pos 1 *ℤ m ≡ m
one-*ℤ m = omega (arith, ints)

by_gap : (m n : ℤ) → m ≤ℤ n → m ≢ n → (m +ℤ pos 1) ≤ℤ n
by_gap m n h ne = by_lt_z n (m +ℤ pos 1) (λ l. absurd (ne (omega (arith, ints)))) (λ g. g)

-- rectangles that are apart in the other coordinate have no edge in common
apart_across : (a b : Rect) → (a.yhi ≤ℤ b.ylo) ⊎ (b.yhi ≤ℤ a.ylo) → overlap a.ylo a.yhi b.ylo b.yhi ≡ pos 0
apart_across a b (inl h) = overlap-before a.ylo a.yhi b.ylo b.yhi h
apart_across a b (inr h) = overlap-after a.ylo a.yhi b.ylo b.yhi h

apart_along : (a b : Rect) → (a.xhi ≤ℤ b.xlo) ⊎ (b.xhi ≤ℤ a.xlo) → overlap a.xlo a.xhi b.xlo b.xhi ≡ pos 0
apart_along a b (inl h) = overlap-before a.xlo a.xhi b.xlo b.xhi h
apart_along a b (inr h) = overlap-after a.xlo a.xhi b.xlo b.xhi h

-- of rectangles that are apart, as many edges lead to the right as they share there
rightward_apart : (a b : Rect) → IsProper a → IsProper b → AreApart a b → rightward a b ≡ shared_beside a b
rightward_apart a b p q (inl (inl h)) =
    let high = overlap a.ylo a.yhi b.ylo b.yhi in
    elim (shared_beside-cases a b) [
      | inl k ↦ ap (λ (z : ℤ). z *ℤ high) (last_one a.xlo a.xhi b.xlo b.xhi p.wide q.wide k.0) ∙ one-*ℤ high ∙ sym k.1
      | inr k ↦ ap (λ (z : ℤ). z *ℤ high) (overlap-before (a.xlo +ℤ pos 1) (a.xhi +ℤ pos 1) b.xlo b.xhi (by_gap a.xhi b.xlo h k.0)) ∙ zero-*ℤ high ∙ sym k.1
    ]
rightward_apart a b p q (inl (inr h)) =
    let high = overlap a.ylo a.yhi b.ylo b.yhi in
    let wide : a.xlo <ℤ a.xhi = p.wide in
    let wide' : b.xlo <ℤ b.xhi = q.wide in
    elim (shared_beside-cases a b) [
      | inl k ↦ let meets : a.xhi ≡ b.xlo = k.0 in absurd (omega (arith, ints))
      | inr k ↦ ap (λ (z : ℤ). z *ℤ high) (overlap-after (a.xlo +ℤ pos 1) (a.xhi +ℤ pos 1) b.xlo b.xhi (omega (arith, ints))) ∙ zero-*ℤ high ∙ sym k.1
    ]
rightward_apart a b p q (inr h) =
    let none = apart_across a b h in
    let wide = overlap (a.xlo +ℤ pos 1) (a.xhi +ℤ pos 1) b.xlo b.xhi in
    ap (λ (z : ℤ). wide *ℤ z) none ∙ *ℤ-zero wide ∙ (elim (shared_beside-cases a b) [ inl k ↦ sym none ∙ sym k.1 | inr k ↦ sym k.1 ])

-- and as many upward as they share there
upward_apart : (a b : Rect) → IsProper a → IsProper b → AreApart a b → upward a b ≡ shared_upon a b
upward_apart a b p q (inr (inl h)) =
    let wide = overlap a.xlo a.xhi b.xlo b.xhi in
    elim (shared_upon-cases a b) [
      | inl k ↦ ap (λ (z : ℤ). wide *ℤ z) (last_one a.ylo a.yhi b.ylo b.yhi p.high q.high k.0) ∙ *ℤ_comm wide (pos 1) ∙ one-*ℤ wide ∙ sym k.1
      | inr k ↦ ap (λ (z : ℤ). wide *ℤ z) (overlap-before (a.ylo +ℤ pos 1) (a.yhi +ℤ pos 1) b.ylo b.yhi (by_gap a.yhi b.ylo h k.0)) ∙ *ℤ-zero wide ∙ sym k.1
    ]
upward_apart a b p q (inr (inr h)) =
    let wide = overlap a.xlo a.xhi b.xlo b.xhi in
    let high : a.ylo <ℤ a.yhi = p.high in
    let high' : b.ylo <ℤ b.yhi = q.high in
    elim (shared_upon-cases a b) [
      | inl k ↦ let meets : a.yhi ≡ b.ylo = k.0 in absurd (omega (arith, ints))
      | inr k ↦ ap (λ (z : ℤ). wide *ℤ z) (overlap-after (a.ylo +ℤ pos 1) (a.yhi +ℤ pos 1) b.ylo b.yhi (omega (arith, ints))) ∙ *ℤ-zero wide ∙ sym k.1
    ]
upward_apart a b p q (inl h) =
    let none = apart_along a b h in
    let high = overlap (a.ylo +ℤ pos 1) (a.yhi +ℤ pos 1) b.ylo b.yhi in
    ap (λ (z : ℤ). z *ℤ high) none ∙ zero-*ℤ high ∙ (elim (shared_upon-cases a b) [ inl k ↦ sym none ∙ sym k.1 | inr k ↦ sym k.1 ])

-- of disjoint rectangles as many edges lead from one to the other as the length that they share
pub edges_between-disjoint : SharedLengthCountsEdges
edges_between-disjoint a b p q disjoint =
    let apart = apart_from_disjoint a b p q disjoint in
    let back = AreApart-sym a b apart in
    let right = rightward_apart a b p q apart in
    let left = rightward_apart b a q p back in
    let up = upward_apart a b p q apart in
    let down = upward_apart b a q p back in
    edges_by_direction a b p ∙ omega (arith, ints, right, left, up, down)

-- an interval has all of itself in common with itself, and all but one when it is moved by 1
with_itself : (lo hi : ℤ) → lo <ℤ hi → overlap lo hi lo hi ≡ hi -ℤ lo
unfolding overlap
with_itself lo hi h = omega (arith, ints, clamps)

moved_by_one : (lo hi : ℤ) → lo <ℤ hi → overlap (lo +ℤ pos 1) (hi +ℤ pos 1) lo hi ≡ (hi -ℤ lo) -ℤ pos 1
unfolding overlap
moved_by_one lo hi h = omega (arith, ints, clamps)

moved_on_itself : (lo hi : ℤ) → lo <ℤ hi → overlap (lo +ℤ pos 1) (hi +ℤ pos 1) lo hi ≡ pred_ℤ (hi -ℤ lo)
moved_on_itself lo hi h = moved_by_one lo hi h ∙ -ℤ_one (hi -ℤ lo)

-- as many edges as its perimeter lead out of a rectangle
pub edges_between-same : PerimeterLeadsOut
edges_between-same a p =
    let w = a.xhi -ℤ a.xlo in
    let h = a.yhi -ℤ a.ylo in
    let right : rightward a a ≡ (w *ℤ h) -ℤ h =
    (λ k. moved_on_itself a.xlo a.xhi p.wide k *ℤ with_itself a.ylo a.yhi p.high k) ∙ pred_ℤ-*ℤ w h in
    let up : upward a a ≡ (w *ℤ h) -ℤ w =
    (λ k. with_itself a.xlo a.xhi p.wide k *ℤ moved_on_itself a.ylo a.yhi p.high k) ∙ *ℤ_comm w (pred_ℤ h) ∙ pred_ℤ-*ℤ h w ∙ ap (λ (z : ℤ). z -ℤ w)
    (*ℤ_comm h w) in
    edges_by_direction a a p ∙ (λ k. (right k +ℤ right k) +ℤ (up k +ℤ up k)) ∙ of_four w h (w *ℤ h)
  where
    of_four : (w h n : ℤ) → ((n -ℤ h) +ℤ (n -ℤ h)) +ℤ ((n -ℤ w) +ℤ (n -ℤ w)) ≡ (pos 4 *ℤ n) -ℤ (pos 2 *ℤ (w +ℤ h))
    of_four w h n = omega (arith, ints)

-- the squares of a rectangle are those that it covers
pub Lists-squares_of : SquaresAreCovered
Lists-squares_of a =
    let P : ℤ × ℤ → Type 0 = λ p. IsBetween a.xlo a.xhi p.0 × IsBetween a.ylo a.yhi p.1 in
    let Q : Square → Type 0 = λ s. IsBetween a.xlo a.xhi s.x × IsBetween a.ylo a.yhi s.y in
    Lists-iff Q (Covers a) (squares_of a)
    (λ s h. record { right_of_xlo = h.0.0; left_of_xhi = h.0.1; above_ylo = h.1.0; below_yhi = h.1.1 })
    (λ s c. ((c.right_of_xlo, c.left_of_xhi), (c.above_ylo, c.below_yhi)))
    (Lists-image {X = ℤ × ℤ} {Y = Square} P (λ p. record { x = p.0; y = p.1 }) (λ s. (s.x, s.y))
    (pairs_of (integer_range a.xlo a.xhi) (integer_range a.ylo a.yhi))
    (λ p. refl) (λ s. refl) (Lists-rectangle a.xlo a.xhi a.ylo a.yhi))

-- and they are as many as its area says
sum_on-range : (lo hi : ℤ) → lo <ℤ hi → sum_on (λ x. pos 1) (integer_range lo hi) ≡ hi -ℤ lo
sum_on-range lo hi h =
    let top = extent_up lo hi (omega (arith, ints)) in
    sum_on-count (integer_range lo hi) ∙ ap pos (length-integer_range lo hi) ∙ omega (arith, ints, top)

-- a rectangle has as many squares as its area says
pub sum_on-squares_of : AreaCountsSquares
sum_on-squares_of a p =
    let xs = integer_range a.xlo a.xhi in
    let ys = integer_range a.ylo a.yhi in
    sum_on-map {X = ℤ × ℤ} {Y = Square} (λ q. record { x = q.0; y = q.1 }) (λ s. pos 1) (pairs_of xs ys)
    ∙ sum_on-pairs_of (λ x. pos 1) (λ y. pos 1) xs ys
    ∙ (λ k. sum_on-range a.xlo a.xhi p.wide k *ℤ sum_on-range a.ylo a.yhi p.high k)
