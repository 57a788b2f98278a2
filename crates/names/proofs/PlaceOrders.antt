-- The order of places, by tests and by corners.
use Rattle.names.proofs.Common.{◌≡◌, ◌<◌, ◌≤◌, ◌⊎◌, ℕ, ◌≤ℤ◌, ◌<ℤ◌, Bool, true, false, cond, inl, inr, arith, refl, sym, subst, cases_Bool, eqb-true}
use Rattle.names.proofs.Common.{ints, Place, IsBefore, IsNoLater, Attachment, place_of, stands_earlier}
use Rattle.std.proofs.Common.{ℤ, eqb, ltb}
use Rattle.std.specs.Prelude.{int_lt}
use Rattle.std.specs.Ordering.{int_eq}
use Rattle.std.proofs.lemmas.Bool.{eqb-false, ltb-true, ltb-false, cases_order}
use Rattle.geo_core.proofs.FiniteSets.Orders.{less_equal_or_greater}
use Rattle.layout_model.proofs.PlaceLaws.{IsBefore-trans}

-- of three places in order the first is the least
pub IsNoLater-trans : (a b c : Place) → IsNoLater a b → IsNoLater b c → IsNoLater a c
IsNoLater-trans a b c (inl same) q = subst (λ (z : Place). IsNoLater z c) (sym same) q
IsNoLater-trans a b c (inr p) (inl same) = inr (subst (λ (z : Place). IsBefore a z) same p)
IsNoLater-trans a b c (inr p) (inr q) = inr (IsBefore-trans a b c p q)

-- the place of a plane, a column and a row
abbrev pub place_at : ℕ → ℤ → ℤ → Place
place_at plane x y = record { plane = plane; square = record { x = x; y = y } }

-- of two places of a plane, that with the lesser row and column is no later
pub no_later_by_parts : (p q : ℕ) (x y u v : ℤ) → p ≡ q → x ≤ℤ u → y ≤ℤ v → IsNoLater (place_at p x y) (place_at q u v)
no_later_by_parts p q x y u v plane column row = elim (less_equal_or_greater y v) [
  | inl less ↦ inr (inr (plane, inl less))
  | inr (inl same) ↦ elim (less_equal_or_greater x u) [
    | inl less ↦ inr (inr (plane, inr (same, less)))
    | inr (inl also) ↦ inl (rw (plane, same, also) refl)
    | inr (inr greater) ↦ absurd (omega (arith, ints))
  ]
  | inr (inr greater) ↦ absurd (omega (arith, ints))
]

-- what the test of two places says
abbrev before_test : ℕ → ℕ → ℤ → ℤ → ℤ → ℤ → Bool
before_test p q x y u v = cond (eqb p q) (cond (int_eq y v) (int_lt x u) (int_lt y v)) (ltb p q)

less_from_test : (x u : ℤ) → int_lt x u ≡ true → x <ℤ u
less_from_test x u h = grind (arith, ints)

not_less_from_test : (x u : ℤ) → int_lt x u ≡ false → u ≤ℤ x
not_less_from_test x u h = grind (arith, ints)

same_from_test : (x u : ℤ) → int_eq x u ≡ true → x ≡ u
same_from_test x u h = grind (arith, ints)

differ_from_test : (x u : ℤ) → int_eq x u ≡ false → u ≤ℤ x → u <ℤ x
differ_from_test x u h no_less = grind (arith, ints)

test_before : (p q : ℕ) (x y u v : ℤ) → before_test p q x y u v ≡ true → IsBefore (place_at p x y) (place_at q u v)
test_before p q x y u v test = elim (cases_Bool (eqb p q)) [
  | inl planes ↦ elim (cases_Bool (int_eq y v)) [
    | inl rows ↦ inr (eqb-true p q planes, inr (same_from_test y v rows, less_from_test x u (rw (planes, rows) at test)))
    | inr rows ↦ inr (eqb-true p q planes, inl (less_from_test y v (rw (planes, rows) at test)))
  ]
  | inr planes ↦ inl (ltb-true p q (rw planes at test))
]

test_not_before : (p q : ℕ) (x y u v : ℤ) → before_test p q x y u v ≡ false → IsNoLater (place_at q u v) (place_at p x y)
test_not_before p q x y u v test = elim (cases_Bool (eqb p q)) [
  | inl planes ↦ elim (cases_Bool (int_eq y v)) [
    | inl rows ↦ no_later_by_parts q p u v x y (sym (eqb-true p q planes)) (not_less_from_test x u (rw (planes, rows) at test))
        (let same = same_from_test y v rows in omega (arith, ints))
    | inr rows ↦ inr (inr (sym (eqb-true p q planes), inl (differ_from_test y v rows (not_less_from_test y v (rw (planes, rows) at test)))))
  ]
  | inr planes ↦ inr (inl (let apart = eqb-false p q planes in let no_less = ltb-false p q (rw planes at test) in by_order apart no_less (cases_order p q)))
]
  where
    by_order : (p ≡ q → ⊥) → q ≤ p → (p ≡ q) ⊎ ((p < q) ⊎ (q < p)) → q < p
    by_order apart no_less (inl same) = absurd (apart same)
    by_order apart no_less (inr (inl less)) = absurd (omega arith)
    by_order apart no_less (inr (inr less)) = less

-- the test tells which of two attachments has the earlier place
pub stands_earlier-true : (a b : Attachment) → stands_earlier a b ≡ true → IsBefore (place_of a) (place_of b)
stands_earlier-true a b test = test_before a.plane b.plane a.square.x a.square.y b.square.x b.square.y test

-- and where it fails the other is no later
pub stands_earlier-false : (a b : Attachment) → stands_earlier a b ≡ false → IsNoLater (place_of b) (place_of a)
stands_earlier-false a b test = test_not_before a.plane b.plane a.square.x a.square.y b.square.x b.square.y test
