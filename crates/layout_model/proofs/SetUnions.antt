-- Unions of sets of tile parts.
use Rattle.std.proofs.Common.{◌≡◌, ◌≢◌, ◌⊎◌, ℕ, bit_or, ap, ◌∙◌, arith, inl, inr}
use Rattle.std.proofs.lemmas.Bool.{cases_eq}
use Rattle.std.proofs.lemmas.Nat.Bits.{bit_at-zero, bit_at_or, same_from_bits}

-- the empty set adds nothing
pub union_none : (a : ℕ) → bit_or a 0 ≡ a
union_none a = same_from_bits (bit_or a 0) a (λ k. let join = bit_at_or a 0 k in let none = bit_at-zero k in omega arith)

-- nor does it on the left
pub none_union : (a : ℕ) → bit_or 0 a ≡ a
none_union a = same_from_bits (bit_or 0 a) a (λ k. let join = bit_at_or 0 a k in let none = bit_at-zero k in omega arith)

-- it is all the same which two of three are joined first
pub union_assoc : (a b c : ℕ) → bit_or (bit_or a b) c ≡ bit_or a (bit_or b c)
union_assoc a b c =
    same_from_bits (bit_or (bit_or a b) c) (bit_or a (bit_or b c)) (λ k.
    let whole = bit_at_or (bit_or a b) c k in
    let left = bit_at_or a b k in
    let other = bit_at_or a (bit_or b c) k in
    let right = bit_at_or b c k in omega arith)

-- a set joined to itself is the set
pub union_same : (a : ℕ) → bit_or a a ≡ a
union_same a = same_from_bits (bit_or a a) a (λ k. let join = bit_at_or a a k in omega arith)

-- where a union has something, one of the two has
pub union_some : (a b : ℕ) → bit_or a b ≢ 0 → (a ≢ 0) ⊎ (b ≢ 0)
union_some a b some = elim (cases_eq a 0) [
  | inr first ↦ inl first
  | inl none ↦ inr (λ empty. some (ap (λ (n : ℕ). bit_or n b) none ∙ ap (bit_or 0) empty ∙ union_none 0))
]
