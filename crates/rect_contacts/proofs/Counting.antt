-- How many integers of one range lie in another, and how many squares of one rectangle in another that is moved.
use Rattle.rect_contacts.proofs.Common.{◌≡◌, ℕ, zero, suc, ◌+◌, ℤ, pos, ◌+ℤ◌, ◌*ℤ◌, ◌≤ℤ◌, ◌<ℤ◌, Bool, true, false, ◌&&◌, List, [], ◌∷◌, ◌⊎◌, inl}
use Rattle.rect_contacts.proofs.Common.{inr, map, refl, sym, ◌∙◌, ap, arith, zero-*ℤ, ints, clamps, by_lt_z, Square, Rect, is_covered, IsProper}
use Rattle.rect_contacts.proofs.Common.{sum_on, one_if, extent, pairs_of, squares_of}
use Rattle.std.proofs.Common.{◌*◌}
use Rattle.std.specs.Prelude.{int_le, int_lt}
use borrow.Author.Differences.{up, down}
use Rattle.geo_core.specs.FiniteSets.Range.{integers_from, integer_range}
use Rattle.geo_core.proofs.FiniteSets.Sums.{sum_on-append, sum_on-map, sum_on-scale, sum_on-same}
use Rattle.geo_core.proofs.FiniteSets.Ranges.{extent_up}
use Rattle.rect_contacts.specs.Contacts.{overlap}

passes : (lo hi z : ℤ) → lo ≤ℤ z → z <ℤ hi → (int_le lo z && int_lt z hi) ≡ true
passes lo hi z from to = grind (arith, ints)

fails_below : (lo hi z : ℤ) → z <ℤ lo → (int_le lo z && int_lt z hi) ≡ false
fails_below lo hi z below = grind (arith, ints)

fails_above : (lo hi z : ℤ) → hi ≤ℤ z → (int_le lo z && int_lt z hi) ≡ false
fails_above lo hi z above = grind (arith, ints)

-- an integer lies in the range, or outside it
in_or_out : (lo hi z : ℤ)
    → ((lo ≤ℤ z) × (z <ℤ hi) × (one_if (int_le lo z && int_lt z hi) ≡ pos 1)) ⊎ (((z <ℤ lo) ⊎ (hi ≤ℤ z)) × (one_if (int_le lo z && int_lt z hi) ≡ pos 0))
in_or_out lo hi z =
    by_lt_z z lo
    (λ below. inr (inl below, ap one_if (fails_below lo hi z below)))
    (λ from. by_lt_z z hi
    (λ to. inl (from, to, ap one_if (passes lo hi z from to)))
    (λ above. inr (inr above, ap one_if (fails_above lo hi z above))))

nothing_in_common : (z lo' hi' : ℤ) → overlap z (z +ℤ pos 0) lo' hi' ≡ pos 0
unfolding overlap
nothing_in_common z lo' hi' = omega (arith, ints, clamps)

-- an interval has one more in common if its first integer lies in the other
one_more_in : (lo hi lo' hi' : ℤ) → lo <ℤ hi → lo' ≤ℤ lo → lo <ℤ hi' → pos 1 +ℤ overlap (lo +ℤ pos 1) hi lo' hi' ≡ overlap lo hi lo' hi'
unfolding overlap
one_more_in lo hi lo' hi' h i j = omega (arith, ints, clamps)

one_more_below : (lo hi lo' hi' : ℤ) → lo <ℤ lo' → overlap (lo +ℤ pos 1) hi lo' hi' ≡ overlap lo hi lo' hi'
unfolding overlap
one_more_below lo hi lo' hi' h = omega (arith, ints, clamps)

one_more_above : (lo hi lo' hi' : ℤ) → hi' ≤ℤ lo → overlap (lo +ℤ pos 1) hi lo' hi' ≡ overlap lo hi lo' hi'
unfolding overlap
one_more_above lo hi lo' hi' h = omega (arith, ints, clamps)

one_more : (lo hi lo' hi' : ℤ) → lo <ℤ hi → one_if (int_le lo' lo && int_lt lo hi') +ℤ overlap (lo +ℤ pos 1) hi lo' hi' ≡ overlap lo hi lo' hi'
one_more lo hi lo' hi' h = elim (in_or_out lo' hi' lo) [
  | inl k ↦ ap (λ (z : ℤ). z +ℤ overlap (lo +ℤ pos 1) hi lo' hi') k.2 ∙ one_more_in lo hi lo' hi' h k.0 k.1
  | inr k ↦ ap (λ (z : ℤ). z +ℤ overlap (lo +ℤ pos 1) hi lo' hi') k.1 ∙ omega (arith, ints)
      ∙ (elim k.0 [ inl l ↦ one_more_below lo hi lo' hi' l | inr l ↦ one_more_above lo hi lo' hi' l ])
]

-- the integers of a range that lie in another when they are moved by d
count_from : (f : ℤ → ℤ) (d : ℤ) → ((x : ℤ) → f x ≡ x +ℤ d) → (lo : ℤ) (n : ℕ) (lo' hi' : ℤ)
    → sum_on (λ x. one_if (int_le lo' (f x) && int_lt (f x) hi')) (integers_from lo n) ≡ overlap (lo +ℤ d) ((lo +ℤ d) +ℤ pos n) lo' hi'
count_from f d moved lo zero lo' hi' = sym (nothing_in_common (lo +ℤ d) lo' hi')
count_from f d moved lo (suc n) lo' hi' =
    let m = lo +ℤ d in
    let first = ap (λ (z : ℤ). one_if (int_le lo' z && int_lt z hi')) (moved lo) in
    let rest = count_from f d moved (lo +ℤ pos 1) n lo' hi' in
    let begins : (lo +ℤ pos 1) +ℤ d ≡ m +ℤ pos 1 = omega (arith, ints) in
    let ends : ((lo +ℤ pos 1) +ℤ d) +ℤ pos n ≡ m +ℤ pos (suc n) = omega (arith, ints) in
    (λ k. first k +ℤ (rest ∙ (λ l. overlap (begins l) (ends l) lo' hi')) k) ∙ one_more m (m +ℤ pos (suc n)) lo' hi' (omega (arith, ints))

count_range : (f : ℤ → ℤ) (d : ℤ) → ((x : ℤ) → f x ≡ x +ℤ d) → (lo hi lo' hi' : ℤ) → lo ≤ℤ hi
    → sum_on (λ x. one_if (int_le lo' (f x) && int_lt (f x) hi')) (integer_range lo hi) ≡ overlap (lo +ℤ d) (hi +ℤ d) lo' hi'
count_range f d moved lo hi lo' hi' h =
    let top = extent_up lo hi h in
    let ends : (lo +ℤ d) +ℤ pos (extent lo hi) ≡ hi +ℤ d = omega (arith, ints, top) in
    count_from f d moved lo (extent lo hi) lo' hi' ∙ ap (λ (z : ℤ). overlap (lo +ℤ d) z lo' hi') ends

-- a product of a sum, the sum on the left
pub distributes_right : (a b k : ℤ) → (a *ℤ k) +ℤ (b *ℤ k) ≡ (a +ℤ b) *ℤ k
distributes_right a b k =
    let sum : up (a +ℤ b) + (down a + down b) ≡ down (a +ℤ b) + (up a + up b) = omega (arith, ints) in
    omega (arith, ints, ap (λ z. z * up k) sum, ap (λ z. z * down k) sum)

-- a sum over pairs of products is the product of the sums
pub sum_on-pairs_of : {X Y : Type 0} (u : X → ℤ) (v : Y → ℤ) (xs : List X) (ys : List Y)
    → sum_on {X = X × Y} (λ p. u p.0 *ℤ v p.1) (pairs_of xs ys) ≡ sum_on u xs *ℤ sum_on v ys
sum_on-pairs_of u v [] ys = sym (zero-*ℤ (sum_on v ys))
sum_on-pairs_of {X} {Y} u v (x ∷ xs) ys =
    let w : X × Y → ℤ = λ p. u p.0 *ℤ v p.1 in
    let here = sum_on-map (λ y. (x, y)) w ys ∙ sum_on-scale (u x) v ys in
    let rest = sum_on-pairs_of u v xs ys in
    sum_on-append w (map (λ y. (x, y)) ys) (pairs_of xs ys) ∙ (λ k. here k +ℤ rest k) ∙ distributes_right (u x) (sum_on u xs) (sum_on v ys)

count_both : (w r s : Bool) → one_if (w && r && s) ≡ one_if w *ℤ one_if (r && s)
count_both true true true = refl
count_both true true false = refl
count_both true false true = refl
count_both true false false = refl
count_both false true true = refl
count_both false true false = refl
count_both false false true = refl
count_both false false false = refl

-- how many squares of one rectangle lie in another when they are moved by dx and dy
pub count_moved : (f g : ℤ → ℤ) (dx dy : ℤ) → ((x : ℤ) → f x ≡ x +ℤ dx) → ((y : ℤ) → g y ≡ y +ℤ dy) → (a b : Rect) → IsProper a
    → sum_on (λ square. one_if (is_covered b (record { x = f square.x; y = g square.y }))) (squares_of a)
    ≡ overlap (a.xlo +ℤ dx) (a.xhi +ℤ dx) b.xlo b.xhi *ℤ overlap (a.ylo +ℤ dy) (a.yhi +ℤ dy) b.ylo b.yhi
count_moved f g dx dy moved raised a b p =
    let wide : a.xlo <ℤ a.xhi = p.wide in
    let high : a.ylo <ℤ a.yhi = p.high in
    let xs = integer_range a.xlo a.xhi in
    let ys = integer_range a.ylo a.yhi in
    let u : ℤ → ℤ = λ x. one_if (int_le b.xlo (f x) && int_lt (f x) b.xhi) in
    let v : ℤ → ℤ = λ y. one_if (int_le b.ylo (g y) && int_lt (g y) b.yhi) in
    let w : Square → ℤ = λ square. one_if (is_covered b (record { x = f square.x; y = g square.y })) in
    let across = count_range f dx moved a.xlo a.xhi b.xlo b.xhi (omega (arith, ints)) in
    let along = count_range g dy raised a.ylo a.yhi b.ylo b.yhi (omega (arith, ints)) in
    sum_on-map {X = ℤ × ℤ} (λ q. record { x = q.0; y = q.1 }) w (pairs_of xs ys)
    ∙ sum_on-same {X = ℤ × ℤ} (λ q. w (record { x = q.0; y = q.1 })) (λ q. u q.0 *ℤ v q.1) (pairs_of xs ys)
    (λ q i. count_both (int_le b.xlo (f q.0) && int_lt (f q.0) b.xhi) (int_le b.ylo (g q.1)) (int_lt (g q.1) b.yhi))
    ∙ sum_on-pairs_of u v xs ys
    ∙ (λ k. across k *ℤ along k)
