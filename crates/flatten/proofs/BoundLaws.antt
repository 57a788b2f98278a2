-- Sums of few enough amounts fit.
use Rattle.flatten.proofs.Common.{◌≡◌, ℕ, ◌+◌, ◌≤◌, ℤ, pos, negsuc, ◌+ℤ◌, ◌-ℤ◌, ◌≤ℤ◌, Bool, true, false, cond, eqb, List, [], ◌∷◌, length, refl}
use Rattle.flatten.proofs.Common.{subst, arith, inl, inr, w128, FitsSigned, ints, In, sum_on, IsMeasure, MOST_NODES, MOST_MERGES, Quantity, Addend}
use Rattle.flatten.proofs.Common.{amount, IsCounted, counts_for, IsLawfulAmount}
use Rattle.std.proofs.Common.{◌*◌}
use Rattle.ext_model.specs.declared.limits.TheConstants.{MEASURE_EDGE}
use Rattle.flatten.proofs.AmountLaws.{small_amount}

-- so many times the edge at most, in absolute value
abbrev pub IsWithin : ℕ → ℤ → Type 0
IsWithin n z = ((pos 0 -ℤ pos (MEASURE_EDGE * n)) ≤ℤ z) × (z ≤ℤ pos (MEASURE_EDGE * n))

measure_within : (z : ℤ) → IsMeasure z → IsWithin 1 z
measure_within (pos n) small = (omega (arith, ints, small), omega (arith, ints, small))
measure_within (negsuc n) small = (omega (arith, ints, small), omega (arith, ints, small))

within_none : (z : ℤ) → IsWithin 1 z → (t : Bool) → IsWithin 1 (cond t z (pos 0))
within_none z h true = h
within_none z h false = (omega (arith, ints), omega (arith, ints))

within_more : (n : ℕ) (s z : ℤ) → IsWithin n s → IsWithin 1 z → IsWithin (n + 1) (z +ℤ s)
within_more n s z h k = let a = h.0 in let b = h.1 in let c = k.0 in let d = k.1 in (omega (arith, ints, a, c), omega (arith, ints, b, d))

-- a sum of lawful addends is as many times the edge at most
pub sum_within : (classes : ℕ) (quantity : Quantity) → IsCounted classes quantity → (node : ℕ) (addends : List Addend)
    → ((addend : Addend) → In addend addends → IsLawfulAmount classes addend.cap addend.measures)
    → IsWithin (length addends) (sum_on (counts_for quantity node) addends)
sum_within classes quantity counted node [] lawful = (omega (arith, ints), omega (arith, ints))
sum_within classes quantity counted node (addend ∷ addends) lawful =
    let rest = sum_within classes quantity counted node addends (λ other h. lawful other (inr h)) in
    let small = measure_within (amount quantity addend.cap addend.measures)
    (small_amount classes addend.cap addend.measures (lawful addend (inl refl)) quantity counted) in
    let one = within_none (amount quantity addend.cap addend.measures) small (eqb addend.node node) in
    let n = length addends in
    let P : ℕ → Type 0 = λ k. IsWithin k (counts_for quantity node addend +ℤ sum_on (counts_for quantity node) addends) in
    let more : n + 1 ≡ length (addend ∷ addends) = omega arith in
    subst P more (within_more n (sum_on (counts_for quantity node) addends) (counts_for quantity node addend) rest one)

-- and one more amount fits
pub fits_more : (n : ℕ) (s z : ℤ) → IsWithin n s → IsMeasure z → n + 1 ≤ MOST_NODES + MOST_MERGES → FitsSigned w128 (s +ℤ z)
fits_more n s z h small few =
    let k = measure_within z small in
    let a = h.0 in let b = h.1 in let c = k.0 in let d = k.1 in
    omega (arith, ints, a, b, c, d, few)
