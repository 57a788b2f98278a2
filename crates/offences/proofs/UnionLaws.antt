-- Unions of sets as numbers.
use Rattle.offences.proofs.Common.{◌≡◌, ◌≢◌, inl, inr, ◌<◌, ◌==◌, ℕ, Bool, true, false, bit_or, cond, refl, sym, ap, subst, ◌∙◌, arith, bit_at}
use Rattle.offences.proofs.Common.{or_zero_l, eq-eqb, ne_eqb, cases_eq, set_if}
use Rattle.std.proofs.lemmas.Nat.Bits.{bit_at-zero, bit_at-lt, same_from_bits}

same_bit : (x y : ℕ) → x < 2 → y < 2 → (x ≡ 1 → y ≡ 1) → (y ≡ 1 → x ≡ 1) → x ≡ y
same_bit x y p q to from = elim (cases_eq x 1) [
  | inl one ↦ one ∙ sym (to one)
  | inr not_one ↦ elim (cases_eq y 1) [ inl one ↦ absurd (not_one (from one)) | inr not_one' ↦ omega arith ]
]

-- sets with the same parts are one
pub same_sets : (a b : ℕ) → ((i : ℕ) → bit_at a i ≡ 1 → bit_at b i ≡ 1) → ((i : ℕ) → bit_at b i ≡ 1 → bit_at a i ≡ 1) → a ≡ b
same_sets a b there back = same_from_bits a b (λ i. same_bit (bit_at a i) (bit_at b i) (bit_at-lt a i) (bit_at-lt b i) (there i) (back i))

-- the empty set has no part
pub no_part : (i : ℕ) → bit_at 0 i ≡ 1 → ⊥
no_part i bit = let e = bit_at-zero i in omega arith

-- the set is kept where its owner is asked for
pub set_if-same : (part owner set : ℕ) → owner ≡ part → set_if part owner set ≡ set
set_if-same part owner set e = ap (λ (b : Bool). cond b set 0) (eq-eqb owner part e)

-- and not where another is
pub set_if-other : (part owner set : ℕ) → owner ≢ part → set_if part owner set ≡ 0
set_if-other part owner set n = ap (λ (b : Bool). cond b set 0) (ne_eqb owner part n)

-- a part of what is kept is one of the set, whose owner is asked for
pub set_if-bit : (part owner set i : ℕ) → bit_at (set_if part owner set) i ≡ 1 → (owner ≡ part) × (bit_at set i ≡ 1)
set_if-bit part owner set i bit = elim (cases_eq owner part) [
  | inl e ↦ (e, subst (λ (s : ℕ). bit_at s i ≡ 1) (set_if-same part owner set e) bit)
  | inr n ↦ absurd (no_part i (subst (λ (s : ℕ). bit_at s i ≡ 1) (set_if-other part owner set n) bit))
]

-- and each part of it
pub set_if-kept : (part owner set i : ℕ) → owner ≡ part → bit_at set i ≡ 1 → bit_at (set_if part owner set) i ≡ 1
set_if-kept part owner set i e bit = subst (λ (s : ℕ). bit_at s i ≡ 1) (sym (set_if-same part owner set e)) bit

-- nothing of the empty set is kept
pub set_if-empty : (part owner set : ℕ) → set ≡ 0 → set_if part owner set ≡ 0
set_if-empty part owner set e = elim (cases_eq owner part) [
  | inl same ↦ set_if-same part owner set same ∙ e
  | inr n ↦ set_if-other part owner set n
]

-- what is kept of a union is the union of what is kept
pub set_if-or : (part owner a b : ℕ) → set_if part owner (bit_or a b) ≡ bit_or (set_if part owner a) (set_if part owner b)
set_if-or part owner a b = go (owner == part)
  where
    go : (t : Bool) → cond t (bit_or a b) 0 ≡ bit_or (cond t a 0) (cond t b 0)
    go true = refl
    go false = sym (or_zero_l 0)
