-- Disjoint rectangles, by their bounds.
use Rattle.rect_contacts.proofs.Common.{◌≤ℤ◌, ◌<ℤ◌, ◌⊎◌, inl, inr, arith, int_max, ints, clamps, by_lt_z, Rect, IsProper, AreDisjoint}

-- one of the rectangles ends before the other begins, in x or in y
abbrev pub AreApart : Rect → Rect → Type 0
AreApart a b = ((a.xhi ≤ℤ b.xlo) ⊎ (b.xhi ≤ℤ a.xlo)) ⊎ ((a.yhi ≤ℤ b.ylo) ⊎ (b.yhi ≤ℤ a.ylo))

-- a square in both, where none of the four holds
in_both : (a b : Rect) → IsProper a → IsProper b → AreDisjoint a b → b.xlo <ℤ a.xhi → a.xlo <ℤ b.xhi → b.ylo <ℤ a.yhi → a.ylo <ℤ b.yhi → ⊥
in_both a b p q d h i j k =
    let pw : a.xlo <ℤ a.xhi = p.wide in let ph : a.ylo <ℤ a.yhi = p.high in
    let qw : b.xlo <ℤ b.xhi = q.wide in let qh : b.ylo <ℤ b.yhi = q.high in
    d (record { x = int_max a.xlo b.xlo; y = int_max a.ylo b.ylo })
    (record {
      right_of_xlo = omega (arith, ints, clamps);
      left_of_xhi = omega (arith, ints, clamps);
      above_ylo = omega (arith, ints, clamps);
      below_yhi = omega (arith, ints, clamps);
    })
    (record {
      right_of_xlo = omega (arith, ints, clamps);
      left_of_xhi = omega (arith, ints, clamps);
      above_ylo = omega (arith, ints, clamps);
      below_yhi = omega (arith, ints, clamps);
    })

-- disjoint rectangles are apart in x or in y
pub apart_from_disjoint : (a b : Rect) → IsProper a → IsProper b → AreDisjoint a b → AreApart a b
apart_from_disjoint a b p q d =
    by_lt_z b.xlo a.xhi
    (λ h. by_lt_z a.xlo b.xhi
    (λ i. by_lt_z b.ylo a.yhi
    (λ j. by_lt_z a.ylo b.yhi (λ k. absurd (in_both a b p q d h i j k)) (λ k. inr (inr k)))
    (λ j. inr (inl j)))
    (λ i. inl (inr i)))
    (λ h. inl (inl h))

-- whichever is named first
pub AreApart-sym : (a b : Rect) → AreApart a b → AreApart b a
AreApart-sym a b (inl (inl h)) = inl (inr h)
AreApart-sym a b (inl (inr h)) = inl (inl h)
AreApart-sym a b (inr (inl h)) = inr (inr h)
AreApart-sym a b (inr (inr h)) = inr (inl h)
