-- Capacitances of areas and perimeters that may be negative are small.
use Rattle.meeting_sums.proofs.Common.{ℕ, suc, ◌^◌, ◌≤◌, ℤ, pos, negsuc, neg_ℤ, ◌*ℤ◌, ◌≤ℤ◌, subst, sym, arith, mul-le-mul_left, ints}
use Rattle.std.proofs.Math.IntN.{negsuc-*ℤ-pos, pos-*ℤ-pos}

-- between so much below and above 0
abbrev pub IsAround : ℕ → ℤ → Type 0
IsAround most z = (neg_ℤ (pos most) ≤ℤ z) × (z ≤ℤ pos most)

-- a product with at most a million
pub product_around : (z : ℤ) (n : ℕ) → IsAround (2 ^ 84) z → n ≤ 1000000 → IsAround (2 ^ 104) (z *ℤ pos n)
product_around (pos m) n around per =
    let low : m ≤ 2 ^ 84 = (let most = around.1 in omega (arith, ints, most)) in
    let less = mul-le-mul_left n low in
    subst (IsAround (2 ^ 104)) (sym (pos-*ℤ-pos m n)) (omega (arith, ints, less, per), omega (arith, ints, less, per))
product_around (negsuc m) n around per =
    let low : suc m ≤ 2 ^ 84 = (let least = around.0 in omega (arith, ints, least)) in
    let less = mul-le-mul_left n low in
    subst (IsAround (2 ^ 104)) (sym (negsuc-*ℤ-pos m n)) (omega (arith, ints, less, per), omega (arith, ints, less, per))
