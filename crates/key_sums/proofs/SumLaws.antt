-- Sums of amounts stay within bounds, and one amount more counts for its key alone.
use Rattle.std.proofs.Common.{◌≡◌, ◌≢◌, ℕ, ◌+◌, ◌*◌, ◌<◌, ◌≤◌, ℤ, pos, ◌+ℤ◌, ◌-ℤ◌, ◌≤ℤ◌, Bool, true, false, cond, eqb, List, length, get_or, take, refl, sym}
use Rattle.std.proofs.Common.{◌∙◌, ap, subst, arith, get_or-set_same, get_or-set_other, inl, inr}
use Rattle.std.specs.Int.{w64, w128}
use Rattle.std.specs.Int.RustNames.{FitsSigned}
use Rattle.std.proofs.Math.ListN.{set}
use Rattle.std.proofs.lemmas.Bool.{cases_eq}
use Rattle.std.proofs.lemmas.Bool.Decides.{nat_tests}
use Rattle.std.proofs.lemmas.Int.{ints}
use Rattle.std.proofs.lemmas.List.{take_more}
use Rattle.finite_sets.proofs.Sums.{sum_on-push}
use Rattle.key_sums.specs.declared.Amount.{Amount}
use Rattle.key_sums.specs.Amounts.{counts_for, sum_of}

-- the value fits 64 bits
abbrev pub Fits : ℤ → Type 0
Fits v = ((pos 0 -ℤ pos 9223372036854775808) ≤ℤ v) × (v ≤ℤ pos 9223372036854775808)

-- a sum of so many of them
abbrev pub Bounded : ℕ → ℤ → Type 0
Bounded n v = ((pos 0 -ℤ pos (9223372036854775808 * n)) ≤ℤ v) × (v ≤ℤ pos (9223372036854775808 * n))

pub bounded_more : (n : ℕ) (v w : ℤ) → Bounded n v → Fits w → Bounded (n + 1) (v +ℤ w)
bounded_more n v w h k = let a = h.0 in let b = h.1 in let c = k.0 in let d = k.1 in (omega (arith, ints, a, c), omega (arith, ints, b, d))

bounded_still : (n : ℕ) (v : ℤ) → Bounded n v → Bounded (n + 1) v
bounded_still n v h = let a = h.0 in let b = h.1 in (omega (arith, ints, a), omega (arith, ints, b))

-- each of the sums is one
pub all_bounded : (sums : List ℤ) (i count key : ℕ) (w : ℤ) → key < count → length sums ≡ count → Fits w
    → ((k : ℕ) → k < count → Bounded i (get_or sums k (pos 0))) → (k : ℕ) → k < count
    → Bounded (i + 1) (get_or (set sums key (get_or sums key (pos 0) +ℤ w)) k (pos 0))
all_bounded sums i count key w below long fits before k less =
    elim (cases_eq k key) [
      | inl same ↦
          (let within : key < length sums = omega (arith, below, long) in
          let is : get_or sums key (pos 0) +ℤ w ≡ get_or (set sums key (get_or sums key (pos 0) +ℤ w)) k (pos 0) =
          sym (ap (λ (m : ℕ). get_or (set sums key (get_or sums key (pos 0) +ℤ w)) m (pos 0)) same ∙ rw get_or-set_same refl) in
          subst (Bounded (i + 1)) is (bounded_more i (get_or sums key (pos 0)) w (before key below) fits))
      | inr differ ↦
          (let apart : k ≢ key = differ in
          rw get_or-set_other (bounded_still i (get_or sums k (pos 0)) (before k less)))
    ]

pub fits_is : (v : ℤ) → FitsSigned w64 v → Fits v
fits_is v h = (omega (arith, ints, h), omega (arith, ints, h))

-- so many fit 128 bits
pub bounded_fits : (n : ℕ) (v : ℤ) → n ≤ 9223372036854775808 → Bounded n v → FitsSigned w128 v
bounded_fits n v few h = let a = h.0 in let b = h.1 in omega (arith, ints, few, a, b)

same_key : (m n : ℕ) → m ≡ n → eqb m n ≡ true
same_key m n e = grind (arith, nat_tests)

other_key : (m n : ℕ) → m ≢ n → eqb m n ≡ false
other_key m n e = grind (arith, nat_tests)

-- one amount more
pub one_more : (sums : List ℤ) (amounts : List Amount) (i count : ℕ) (d : Amount) → i < length amounts → length sums ≡ count → (get_or amounts i d).key < count
    → ((key : ℕ) → key < count → get_or sums key (pos 0) ≡ sum_of key (take i amounts)) → (key : ℕ) → key < count
    → get_or (set sums (get_or amounts i d).key (get_or sums (get_or amounts i d).key (pos 0) +ℤ (get_or amounts i d).value)) key (pos 0) ≡ sum_of key (take
    (i + 1) amounts)
one_more sums amounts i count d inside long below before key less =
    let amount = get_or amounts i d in
    let more : sum_of key (take (i + 1) amounts) ≡ sum_of key (take i amounts) +ℤ counts_for key amount =
    ap (sum_of key) (take_more amounts i d inside) ∙ sum_on-push (counts_for key) (take i amounts) amount in
    elim (cases_eq key amount.key) [
      | inl same ↦
          (let within : amount.key < length sums = omega (arith, below, long) in
          ap (λ (k : ℕ). get_or (set sums amount.key (get_or sums amount.key (pos 0) +ℤ amount.value)) k (pos 0)) same ∙ rw get_or-set_same refl
          ∙ ap (λ (z : ℤ). z +ℤ amount.value) (ap (λ (k : ℕ). get_or sums k (pos 0)) (sym same) ∙ before key less)
          ∙ ap (λ (t : Bool). sum_of key (take i amounts) +ℤ cond t amount.value (pos 0)) (sym (same_key amount.key key (sym same))) ∙ sym more)
      | inr differ ↦
          (let apart : key ≢ amount.key = differ in
          rw get_or-set_other (before key less) ∙ plus_none (sum_of key (take i amounts))
          ∙ ap (λ (t : Bool). sum_of key (take i amounts) +ℤ cond t amount.value (pos 0)) (sym (other_key amount.key key (λ e. differ (sym e)))) ∙ sym more)
    ]
  where
    plus_none : (z : ℤ) → z ≡ z +ℤ pos 0
    plus_none z = omega (arith, ints)
