-- Tables of pairs: what a row has after one bit was set, and what pairs that follow each other add.
use Rattle.tech_model.proofs.Common.{◌≡◌, ◌*◌, ◌%◌, ◌^◌, ◌<◌, ◌&&◌, ◌||◌, ◌==◌, ℕ, Bool, true, false, List, length, bit_or, refl, sym, ◌∙◌, arith}
use Rattle.tech_model.proofs.Common.{inl, inr, bit_at, cases_eq, eq-eqb, ne_eqb, common_steps, TypeId, is_of}
use Rattle.std.proofs.Common.{slice_index_or, slice_set}
use Rattle.std.specs.Int.{w128}
use Rattle.std.proofs.lemmas.Nat.Bits.{bit_at_set_same, bit_at_set_other}
use Rattle.std.proofs.lemmas.List.{get_or-set_other}
use Rattle.std.proofs.lemmas.Grind.{get_or_default_zero, get_or-set_at}
use Rattle.tech_model.specs.PairTables.{row_has}

bit_set : (row t y : ℕ) → t < 128 → y < 128 → (bit_at (bit_or row (1 * 2 ^ t % 2 ^ 128)) y == 1) ≡ (bit_at row y == 1 || y == t)
bit_set row t y t_below y_below = elim (cases_eq y t) [
  | inl same ↦ grind (arith, common_steps, same, bit_at_set_same w128 row t t_below)
  | inr other ↦ grind (arith, common_steps, ne_eqb y t other, bit_at_set_other w128 row t t_below y other)
]

-- the rows after a bit was set in the row of s
pub row_has-set : (rows : List ℕ) (i row s t x y : ℕ) → i ≡ s → row ≡ slice_index_or rows s row → s < length rows → t < 128 → y < 128
    → row_has (slice_set rows i (bit_or row (1 * 2 ^ t % 2 ^ 128))) x y ≡ (row_has rows x y || (x == s && y == t))
row_has-set rows i row s t x y at_s is_row inside t_below y_below =
    let here : row ≡ slice_index_or rows s 0 = is_row ∙ get_or_default_zero rows s row inside in
    elim (cases_eq x s) [
      | inl same ↦ grind (arith, common_steps, eq-eqb x s same, get_or-set_at rows i x (bit_or row (1 * 2 ^ t % 2 ^ 128)) 0, bit_set row t y t_below y_below)
      | inr other ↦ grind (arith, common_steps, ne_eqb x s other, get_or-set_other rows s x (bit_or row (1 * 2 ^ t % 2 ^ 128)) 0 other)
    ]

-- whether two numbers are equal does not depend on their order
pub eq_comm : (a b : ℕ) → (a == b) ≡ (b == a)
eq_comm a b = elim (cases_eq a b) [
  | inl same ↦ eq-eqb a b same ∙ sym (eq-eqb b a (sym same))
  | inr other ↦ ne_eqb a b other ∙ sym (ne_eqb b a (λ same. other (sym same)))
]

or_and_swapped : (old a b c d : Bool) → ((old || (a && b)) || (c && d)) ≡ (old || ((a && b) || (d && c)))
or_and_swapped true a b c d = refl
or_and_swapped false a b true true = refl
or_and_swapped false a b true false = refl
or_and_swapped false a b false true = refl
or_and_swapped false a b false false = refl

-- one more pair, put in both ways
pub is_of_more : (old : Bool) (x y : ℕ) (pair : TypeId × TypeId)
    → ((old || (x == pair.0.0 && y == pair.1.0)) || (x == pair.1.0 && y == pair.0.0)) ≡ (old || is_of x y pair)
is_of_more old x y pair =
    rw (eq_comm x pair.0.0, eq_comm y pair.1.0, eq_comm x pair.1.0, eq_comm y pair.0.0)
    (or_and_swapped old (pair.0.0 == x) (pair.1.0 == y) (pair.1.0 == x) (pair.0.0 == y))
