-- Parts in unions of sets: a part is a set with one bit, so a union has it where one of two sets has it.
use Rattle.file_laws.proofs.Common.{◌≡◌, ◌⊎◌, ℕ, inl, inr, subst, sym, arith, is_subset, IsBit}
use Rattle.std.proofs.Common.{bit_or}
use Rattle.std.specs.Prelude.{true}
use Rattle.std.specs.Int.{bit_at}
use Rattle.std.proofs.lemmas.Nat.Bits.{bit_at-zero}
use Rattle.tech_model.proofs.SetLaws.{mark_part, mark_part_bit, or_bit_cases, or_bit_left, or_bit_right}

module _ (part : ℕ) (bit : IsBit part) where
  bit_of : (set : ℕ) → is_subset part set ≡ true → bit_at set bit.0 ≡ 1
  bit_of set is = mark_part_bit set bit.0 (subst (λ (p : ℕ). is_subset p set ≡ true) bit.1 is)

  part_of : (set : ℕ) → bit_at set bit.0 ≡ 1 → is_subset part set ≡ true
  part_of set is = subst (λ (p : ℕ). is_subset p set ≡ true) (sym bit.1) (mark_part set bit.0 is)

  -- the empty set has no part
  pub part_in_none : is_subset part 0 ≡ true → ⊥
  part_in_none is = let some = bit_of 0 is in let none = bit_at-zero bit.0 in omega (arith, some, none)

  -- one of two sets has what their union has
  pub part_in_union : (a b : ℕ) → is_subset part (bit_or a b) ≡ true → (is_subset part a ≡ true) ⊎ (is_subset part b ≡ true)
  part_in_union a b is = elim (or_bit_cases a b bit.0 (bit_of (bit_or a b) is)) [
    | inl first ↦ inl (part_of a first)
    | inr second ↦ inr (part_of b second)
  ]

  -- a union has what the first set has
  pub part_in_first : (a b : ℕ) → is_subset part a ≡ true → is_subset part (bit_or a b) ≡ true
  part_in_first a b is = part_of (bit_or a b) (or_bit_left a b bit.0 (bit_of a is))

  -- and what the second has
  pub part_in_second : (a b : ℕ) → is_subset part b ≡ true → is_subset part (bit_or a b) ≡ true
  part_in_second a b is = part_of (bit_or a b) (or_bit_right a b bit.0 (bit_of b is))
