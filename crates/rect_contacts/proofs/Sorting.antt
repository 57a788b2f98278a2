-- Sides of disjoint rectangles, sorted, stand one before the next.
use Rattle.rect_contacts.proofs.Common.{◌≡◌, ◌≢◌, ℕ, ◌<◌, ℤ, pos, ◌≤ℤ◌, ◌<ℤ◌, List, ◌⊎◌, false, length, get_or, inl, inr, refl, sym, ◌∙◌, ap, subst}
use Rattle.rect_contacts.proofs.Common.{arith, All, AllPairs, IsPermutation, IsSorted, Ordering, is_lt, int_cmp, nat_cmp, ordering_then}
use Rattle.rect_contacts.proofs.Common.{int_cmp_total, nat_cmp_total, on_total, then_total, ints, get_or_default, IsPermutation-sym, Rect, IsProper}
use Rattle.rect_contacts.proofs.Common.{In, In-get_or, In-index, In-permutation, AllPairs-permutation, Edge, Left, Right, Bottom, Top, Side}
use Rattle.rect_contacts.proofs.Common.{AreDisjoint, IsNear, rect_at, side_of, AreSidesOf}
use Rattle.std.specs.Cmp.{IsTotalOrder}
use Rattle.geo_core.proofs.FiniteSets.Orders.{ordering_then-not_less, int_then-not_less, IsSorted-pairs}
use Rattle.rect_contacts.specs.steps.Sides.{IsSpan, EndsBefore}
use Rattle.rect_contacts.proofs.Apart.{AreApart, apart_from_disjoint}

-- The sides are those of two rectangles that are apart: where they lie on one line, one ends before the other begins.
pub record AreSidesApart (a b : Side) : Type 0 where
  pub of_two : a.owner ≢ b.owner
  pub first_long : a.from <ℤ a.to
  pub second_long : b.from <ℤ b.to
  pub apart : a.line ≡ b.line → (a.to ≤ℤ b.from) ⊎ (b.to ≤ℤ a.from)

AreSidesApart-sym : (a b : Side) → AreSidesApart a b → AreSidesApart b a
AreSidesApart-sym a b h = record {
  of_two = λ e. h.of_two (sym e);
  first_long = h.second_long;
  second_long = h.first_long;
  apart = λ e. elim (h.apart (sym e)) [ inl k ↦ inr k | inr k ↦ inl k ];
}

-- a side of a rectangle with a square has a length
pub side_long : (edge : Edge) (a : Rect) (place : ℕ) → IsProper a → (side_of edge a place).from <ℤ (side_of edge a place).to
side_long Left a place p = p.high
side_long Right a place p = p.high
side_long Bottom a place p = p.wide
side_long Top a place p = p.wide

-- the sides of rectangles that are near are spans
side_spans : (edge : Edge) (a : Rect) (place : ℕ) → IsProper a → IsNear a → IsSpan (side_of edge a place)
side_spans Left a place p n = record { long = p.high; near_from = n.ylo; near_to = n.yhi }
side_spans Right a place p n = record { long = p.high; near_from = n.ylo; near_to = n.yhi }
side_spans Bottom a place p n = record { long = p.wide; near_from = n.xlo; near_to = n.xhi }
side_spans Top a place p n = record { long = p.wide; near_from = n.xlo; near_to = n.xhi }

-- on one vertical line rectangles that are apart are so in y
apart_in_y : (a b : Rect) → AreApart a b → (a.xhi ≤ℤ b.xlo → ⊥) → (b.xhi ≤ℤ a.xlo → ⊥) → (a.yhi ≤ℤ b.ylo) ⊎ (b.yhi ≤ℤ a.ylo)
apart_in_y a b (inl (inl h)) m n = absurd (m h)
apart_in_y a b (inl (inr h)) m n = absurd (n h)
apart_in_y a b (inr h) m n = h

apart_in_x : (a b : Rect) → AreApart a b → (a.yhi ≤ℤ b.ylo → ⊥) → (b.yhi ≤ℤ a.ylo → ⊥) → (a.xhi ≤ℤ b.xlo) ⊎ (b.xhi ≤ℤ a.xlo)
apart_in_x a b (inr (inl h)) m n = absurd (m h)
apart_in_x a b (inr (inr h)) m n = absurd (n h)
apart_in_x a b (inl h) m n = h

-- intervals that begin or end together are not apart
begin_together : (lo hi lo' hi' : ℤ) → lo <ℤ hi → lo ≡ lo' → hi ≤ℤ lo' → ⊥
begin_together lo hi lo' hi' h e k = omega (arith, ints)

end_together : (lo hi lo' hi' : ℤ) → lo' <ℤ hi' → hi ≡ hi' → hi ≤ℤ lo' → ⊥
end_together lo hi lo' hi' h e k = omega (arith, ints)

on_one_line : (edge : Edge) (a b : Rect) (i j : ℕ) → IsProper a → IsProper b → AreApart a b → (side_of edge a i).line ≡ (side_of edge b j).line
    → ((side_of edge a i).to ≤ℤ (side_of edge b j).from) ⊎ ((side_of edge b j).to ≤ℤ (side_of edge a i).from)
on_one_line Left a b i j p q s e = apart_in_y a b s (begin_together a.xlo a.xhi b.xlo b.xhi p.wide e) (begin_together b.xlo b.xhi a.xlo a.xhi q.wide (sym e))
on_one_line Right a b i j p q s e = apart_in_y a b s (end_together a.xlo a.xhi b.xlo b.xhi q.wide e) (end_together b.xlo b.xhi a.xlo a.xhi p.wide (sym e))
on_one_line Bottom a b i j p q s e = apart_in_x a b s (begin_together a.ylo a.yhi b.ylo b.yhi p.high e) (begin_together b.ylo b.yhi a.ylo a.yhi q.high (sym e))
on_one_line Top a b i j p q s e = apart_in_x a b s (end_together a.ylo a.yhi b.ylo b.yhi q.high e) (end_together b.ylo b.yhi a.ylo a.yhi p.high (sym e))

-- the order of sides
abbrev pub side_cmp : Side → Side → Ordering
side_cmp a b = ordering_then (int_cmp a.line b.line) (ordering_then (int_cmp a.from b.from) (ordering_then (int_cmp a.to b.to) (nat_cmp a.owner b.owner)))

side_cmp_total : IsTotalOrder side_cmp
side_cmp_total = then_total (on_total (λ s. s.line) int_cmp_total) (then_total (on_total (λ s. s.from) int_cmp_total)
    (then_total (on_total (λ s. s.to) int_cmp_total) (on_total (λ s. s.owner) nat_cmp_total)))

-- of sides that lie apart, one that is not greater ends before the other begins
before_from_order : (a b : Side) → AreSidesApart a b → is_lt (side_cmp b a) ≡ false → EndsBefore a b
before_from_order a b s h =
    let ends = ordering_then (int_cmp b.to a.to) (nat_cmp b.owner a.owner) in
    let order = ordering_then-not_less a.line b.line (ordering_then (int_cmp b.from a.from) ends) h in
    record {
      of_two = s.of_two;
      before = elim order [
        | inl l ↦ inl l
        | inr k ↦ inr (
          k.0,
          elim (s.apart k.0) [
            | inl l ↦ l
            | inr l ↦ absurd (let long : b.from <ℤ b.to = s.second_long in omega (arith, ints, int_then-not_less a.from b.from ends k.1))
          ],
        )
      ];
    }

-- a side's owner is the place of its rectangle
pub side_owner : (edge : Edge) (a : Rect) (place : ℕ) → (side_of edge a place).owner ≡ place
side_owner Left a place = refl
side_owner Right a place = refl
side_owner Bottom a place = refl
side_owner Top a place = refl

-- The list has that edge of each rectangle, in the order of the rectangles.
pub record HasSides (edge : Edge) (rects : List Rect) (sides : List Side) (d : Side) : Type 0 where
  pub so_many : length sides ≡ length rects
  pub each : (k : ℕ) → k < length rects → get_or sides k d ≡ side_of edge (rect_at rects k) k

-- the default of the reads of a list of sides
abbrev pub no_side : Side
no_side = record { line = pos 0; from = pos 0; to = pos 0; owner = 0 }

lie_apart : (edge : Edge) (a b : Rect) (i j : ℕ) → IsProper a → IsProper b → AreDisjoint a b → i < j → AreSidesApart (side_of edge a i) (side_of edge b j)
lie_apart edge a b i j p q disjoint less = record {
  of_two = λ e. let same : i ≡ j = sym (side_owner edge a i) ∙ e ∙ side_owner edge b j in omega arith;
  first_long = side_long edge a i p;
  second_long = side_long edge b j q;
  apart = on_one_line edge a b i j p q (apart_from_disjoint a b p q disjoint);
}

module _ (edge : Edge) (rects : List Rect) (xs ys : List Side) (d : Side) (proper : All IsProper rects) (near : All IsNear rects)
    (disjoint : AllPairs AreDisjoint rects)
    (has : HasSides edge rects xs d) (moved : IsPermutation xs ys) (sorted : IsSorted side_cmp ys) where
  all_apart : AllPairs AreSidesApart xs
  all_apart = λ i j e less below.
      let last : j < length rects = omega (arith, has.so_many, below) in
      let first : i < length rects = omega arith in
      let a : get_or xs i e ≡ side_of edge (rect_at rects i) i = get_or_default xs i e d (omega arith) ∙ has.each i first in
      let b : get_or xs j e ≡ side_of edge (rect_at rects j) j = get_or_default xs j e d below ∙ has.each j last in
      subst (λ (x : Side). AreSidesApart x (get_or xs j e)) (sym a) (subst (λ (y : Side). AreSidesApart (side_of edge (rect_at rects i) i) y) (sym b)
      (lie_apart edge (rect_at rects i) (rect_at rects j) i j (proper i _ first) (proper j _ last) (disjoint i j _ less last) less))

  -- each of them stands in the sorted list
  has_each : (place : ℕ) → place < length rects → In (side_of edge (rect_at rects place) place) ys
  has_each place below =
      In-permutation (side_of edge (rect_at rects place) place) xs ys moved
      (subst (λ (s : Side). In s xs) (has.each place below) (In-get_or xs place d (omega (arith, has.so_many, below))))

  -- and nothing else
  has_no_other : (side : Side) → In side ys → (side.owner < length rects) × (side ≡ side_of edge (rect_at rects side.owner) side.owner)
  has_no_other side i =
      let r = In-index side xs (In-permutation side ys xs (IsPermutation-sym xs ys moved) i) in
      let below : r.0 < length rects = omega (arith, has.so_many, r.1.0) in
      let is : side ≡ side_of edge (rect_at rects r.0) r.0 = sym (r.1.1 d) ∙ has.each r.0 below in
      let owner : side.owner ≡ r.0 = ap (λ (s : Side). s.owner) is ∙ side_owner edge (rect_at rects r.0) r.0 in
      (omega arith, is ∙ ap (λ (k : ℕ). side_of edge (rect_at rects k) k) (sym owner))

  has_spans : All IsSpan ys
  has_spans = λ k e below.
      let x = has_no_other (get_or ys k e) (In-get_or ys k e below) in
      let owner = (get_or ys k e).owner in
      subst IsSpan (sym x.1) (side_spans edge (rect_at rects owner) owner (proper owner _ x.0) (near owner _ x.0))

  -- and in the sorted list each stands before the next
  has_order : AllPairs EndsBefore ys
  has_order = λ i j e less below.
      before_from_order (get_or ys i e) (get_or ys j e)
      (AllPairs-permutation AreSidesApart AreSidesApart-sym xs ys moved all_apart i j e less below)
      (IsSorted-pairs side_cmp side_cmp_total ys sorted i j e less below)

  pub sides_from_sort : AreSidesOf edge rects ys
  sides_from_sort = record { each = has_each; others = has_no_other; in_order = record { spans = has_spans; ascending = has_order } }
