-- Rectangles that lie apart share part of an edge exactly where a square of the one shares an edge with a square of the other.
use Rattle.rect_contacts.proofs.Common.{◌≡◌, ℤ, pos, ◌+ℤ◌, ◌-ℤ◌, ◌≤ℤ◌, ◌<ℤ◌, inl, inr, refl, sym, subst, arith, int_max, ints, clamps, by_lt_z}
use Rattle.rect_contacts.proofs.Common.{Square, Rect, Covers, IsProper, AreDisjoint, shared_length}
use Rattle.geo_core.specs.Neighbours.{AreEdgeNeighbours}
use Rattle.geo_core.proofs.NeighbourLaws.{AreEdgeNeighbours-sym}
use Rattle.rect_contacts.specs.Contacts.{overlap, shared_beside, shared_upon}
use Rattle.rect_contacts.proofs.Shared.{shared_beside-cases, shared_upon-cases, shared_beside-not_negative, shared_upon-not_negative}

-- a square of the one and a square of the other that share an edge
pub record Abut (a b : Rect) : Type 0 where
  pub here : Square
  pub there : Square
  pub in_first : Covers a here
  pub in_second : Covers b there
  pub near : AreEdgeNeighbours here there

Abut-sym : (a b : Rect) → Abut a b → Abut b a
Abut-sym a b h = record {
  here = h.there;
  there = h.here;
  in_first = h.in_second;
  in_second = h.in_first;
  near = AreEdgeNeighbours-sym h.here h.there h.near;
}

-- the greater beginning lies in both of two intervals that have something in common
begins_in_first : (lo hi lo' hi' : ℤ) → pos 0 <ℤ overlap lo hi lo' hi' → int_max lo lo' <ℤ hi
unfolding overlap
begins_in_first lo hi lo' hi' common = omega (arith, ints, clamps)

begins_in_second : (lo hi lo' hi' : ℤ) → pos 0 <ℤ overlap lo hi lo' hi' → int_max lo lo' <ℤ hi'
unfolding overlap
begins_in_second lo hi lo' hi' common = omega (arith, ints, clamps)

-- two intervals with an integer in common
overlap-common : (lo hi lo' hi' z : ℤ) → lo ≤ℤ z → z <ℤ hi → lo' ≤ℤ z → z <ℤ hi' → pos 0 <ℤ overlap lo hi lo' hi'
unfolding overlap
overlap-common lo hi lo' hi' z p q p' q' = omega (arith, ints, clamps)

-- two squares in the lowest row that both rectangles have
beside_abut : (a b : Rect) → IsProper a → IsProper b → pos 0 <ℤ shared_beside a b → Abut a b
beside_abut a b proper proper' shared = elim (shared_beside-cases a b) [
  | inr k ↦ (let none : shared_beside a b ≡ pos 0 = k.1 in absurd (omega (arith, ints)))
  | inl k ↦
      (let meets : a.xhi ≡ b.xlo = k.0 in
      let common : pos 0 <ℤ overlap a.ylo a.yhi b.ylo b.yhi = subst (λ (z : ℤ). pos 0 <ℤ z) k.1 shared in
      let in_first = begins_in_first a.ylo a.yhi b.ylo b.yhi common in
      let in_second = begins_in_second a.ylo a.yhi b.ylo b.yhi common in
      record {
        here = record { x = a.xhi -ℤ pos 1; y = int_max a.ylo b.ylo };
        there = record { x = b.xlo; y = int_max a.ylo b.ylo };
        in_first = record {
          right_of_xlo = omega (arith, ints);
          left_of_xhi = omega (arith, ints);
          above_ylo = omega (arith, ints, clamps);
          below_yhi = in_first;
        };
        in_second = record {
          right_of_xlo = omega (arith, ints);
          left_of_xhi = omega (arith, ints);
          above_ylo = omega (arith, ints, clamps);
          below_yhi = in_second;
        };
        near = inl (inl (omega (arith, ints)), refl);
      })
]

-- two squares in the leftmost column that both rectangles have
upon_abut : (a b : Rect) → IsProper a → IsProper b → pos 0 <ℤ shared_upon a b → Abut a b
upon_abut a b proper proper' shared = elim (shared_upon-cases a b) [
  | inr k ↦ (let none : shared_upon a b ≡ pos 0 = k.1 in absurd (omega (arith, ints)))
  | inl k ↦
      (let meets : a.yhi ≡ b.ylo = k.0 in
      let common : pos 0 <ℤ overlap a.xlo a.xhi b.xlo b.xhi = subst (λ (z : ℤ). pos 0 <ℤ z) k.1 shared in
      let in_first = begins_in_first a.xlo a.xhi b.xlo b.xhi common in
      let in_second = begins_in_second a.xlo a.xhi b.xlo b.xhi common in
      record {
        here = record { x = int_max a.xlo b.xlo; y = a.yhi -ℤ pos 1 };
        there = record { x = int_max a.xlo b.xlo; y = b.ylo };
        in_first = record {
          right_of_xlo = omega (arith, ints, clamps);
          left_of_xhi = in_first;
          above_ylo = omega (arith, ints);
          below_yhi = omega (arith, ints);
        };
        in_second = record {
          right_of_xlo = omega (arith, ints, clamps);
          left_of_xhi = in_second;
          above_ylo = omega (arith, ints);
          below_yhi = omega (arith, ints);
        };
        near = inr (refl, inl (omega (arith, ints)));
      })
]

-- rectangles that share part of an edge have neighbours there
pub shared_abut : (a b : Rect) → IsProper a → IsProper b → pos 0 <ℤ shared_length a b → Abut a b
shared_abut a b proper proper' shared =
    by_lt_z (pos 0) (shared_beside a b) (λ h. beside_abut a b proper proper' h)
    (λ not_beside. by_lt_z (pos 0) (shared_beside b a) (λ h. Abut-sym b a (beside_abut b a proper' proper h))
    (λ not_beside_back. by_lt_z (pos 0) (shared_upon a b) (λ h. upon_abut a b proper proper' h)
    (λ not_upon. by_lt_z (pos 0) (shared_upon b a) (λ h. Abut-sym b a (upon_abut b a proper' proper h))
    (λ not_upon_back. absurd (omega (arith, ints))))))

-- neighbours in one row, of which neither lies in the other's rectangle
right_shares : (a b : Rect) (s t : Square) → Covers a s → Covers b t → (Covers a t → ⊥) → (Covers b s → ⊥) → t.x ≡ s.x +ℤ pos 1 → s.y ≡ t.y
    → pos 0 <ℤ shared_beside a b
right_shares a b s t p q not_a not_b right row =
    let ends : a.xhi ≤ℤ t.x =
    by_lt_z t.x a.xhi
    (λ inside. absurd (not_a (record {
      right_of_xlo = omega (arith, ints);
      left_of_xhi = inside;
      above_ylo = omega (arith, ints);
      below_yhi = omega (arith, ints);
    })))
    (λ outside. outside) in
    let begins : t.x ≤ℤ b.xlo =
    by_lt_z s.x b.xlo
    (λ outside. omega (arith, ints))
    (λ inside. absurd (not_b (record {
      right_of_xlo = inside;
      left_of_xhi = omega (arith, ints);
      above_ylo = omega (arith, ints);
      below_yhi = omega (arith, ints);
    }))) in
    let meets : a.xhi ≡ b.xlo = omega (arith, ints) in
    elim (shared_beside-cases a b) [
      | inr k ↦ absurd (k.0 meets)
      | inl k ↦ subst (λ (z : ℤ). pos 0 <ℤ z) (sym k.1) (overlap-common a.ylo a.yhi b.ylo b.yhi s.y p.above_ylo p.below_yhi (omega (arith, ints))
          (omega (arith, ints)))
    ]

-- neighbours in one column, of which neither lies in the other's rectangle
up_shares : (a b : Rect) (s t : Square) → Covers a s → Covers b t → (Covers a t → ⊥) → (Covers b s → ⊥) → s.x ≡ t.x → t.y ≡ s.y +ℤ pos 1
    → pos 0 <ℤ shared_upon a b
up_shares a b s t p q not_a not_b column up =
    let ends : a.yhi ≤ℤ t.y =
    by_lt_z t.y a.yhi
    (λ inside. absurd (not_a (record {
      right_of_xlo = omega (arith, ints);
      left_of_xhi = omega (arith, ints);
      above_ylo = omega (arith, ints);
      below_yhi = inside;
    })))
    (λ outside. outside) in
    let begins : t.y ≤ℤ b.ylo =
    by_lt_z s.y b.ylo
    (λ outside. omega (arith, ints))
    (λ inside. absurd (not_b (record {
      right_of_xlo = omega (arith, ints);
      left_of_xhi = omega (arith, ints);
      above_ylo = inside;
      below_yhi = omega (arith, ints);
    }))) in
    let meets : a.yhi ≡ b.ylo = omega (arith, ints) in
    elim (shared_upon-cases a b) [
      | inr k ↦ absurd (k.0 meets)
      | inl k ↦ subst (λ (z : ℤ). pos 0 <ℤ z) (sym k.1) (overlap-common a.xlo a.xhi b.xlo b.xhi s.x p.right_of_xlo p.left_of_xhi (omega (arith, ints))
          (omega (arith, ints)))
    ]

-- one part of the shared length is not 0
some_beside : (a b : Rect) → pos 0 <ℤ shared_beside a b → pos 0 <ℤ shared_length a b
some_beside a b h = omega (arith, ints, shared_beside-not_negative b a, shared_upon-not_negative a b, shared_upon-not_negative b a)

some_beside_back : (a b : Rect) → pos 0 <ℤ shared_beside b a → pos 0 <ℤ shared_length a b
some_beside_back a b h = omega (arith, ints, shared_beside-not_negative a b, shared_upon-not_negative a b, shared_upon-not_negative b a)

some_upon : (a b : Rect) → pos 0 <ℤ shared_upon a b → pos 0 <ℤ shared_length a b
some_upon a b h = omega (arith, ints, shared_beside-not_negative a b, shared_beside-not_negative b a, shared_upon-not_negative b a)

some_upon_back : (a b : Rect) → pos 0 <ℤ shared_upon b a → pos 0 <ℤ shared_length a b
some_upon_back a b h = omega (arith, ints, shared_beside-not_negative a b, shared_beside-not_negative b a, shared_upon-not_negative a b)

-- disjoint rectangles with neighbours share part of an edge
pub neighbours_share : (a b : Rect) (s t : Square) → AreDisjoint a b → Covers a s → Covers b t → AreEdgeNeighbours s t → pos 0 <ℤ shared_length a b
neighbours_share a b s t apart p q (inl (inl right, row)) = some_beside a b (right_shares a b s t p q (λ h. apart t h q) (λ h. apart s p h) right row)
neighbours_share a b s t apart p q (inl (inr left, row)) = some_beside_back a b (right_shares b a t s q p (λ h. apart s p h) (λ h. apart t h q) left (sym row))
neighbours_share a b s t apart p q (inr (column, inl up)) = some_upon a b (up_shares a b s t p q (λ h. apart t h q) (λ h. apart s p h) column up)
neighbours_share a b s t apart p q (inr (column, inr down)) = some_upon_back a b (up_shares b a t s q p (λ h. apart s p h) (λ h. apart t h q) (sym column) down)
