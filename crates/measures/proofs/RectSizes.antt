-- How large the area and the perimeter of a near rectangle are.
use Rattle.measures.proofs.Common.{◌≡◌, ◌<◌, ℤ, pos, ◌-ℤ◌, ◌*ℤ◌, to_z, of_z, arith, sym, ◌∙◌, subst, w64, ints, to_z-of_z, IsNear}
use Rattle.std.proofs.Common.{◌^◌, ◌≤◌, negsuc, ◌≤ℤ◌, ◌<ℤ◌}
use Rattle.std.specs.Int.RustNames.{FitsSigned}
use Rattle.std.proofs.Math.Nat.{mul-le-mul_left}
use Rattle.geo_core.specs.declared.squares.Rect.{Rect}
use Rattle.geo_core.specs.Covering.{IsProper}
use Rattle.flood_nodes.specs.RectContacts.Squares.{area_of}

-- a number from 0 on and below 2^58
record IsCount (z : ℤ) : Type 0 where
  not_negative : pos 0 ≤ℤ z
  small : z <ℤ pos (2 ^ 58)

product_bounds : (w h : ℤ) → pos 0 ≤ℤ w → w <ℤ pos (2 ^ 29) → pos 0 ≤ℤ h → h <ℤ pos (2 ^ 29) → IsCount (w *ℤ h)
product_bounds (pos m) (pos n) p q r s =
    let narrow : m ≤ 2 ^ 29 = omega (arith, ints) in
    let low : n < 2 ^ 29 = omega (arith, ints) in
    let less = mul-le-mul_left n narrow in
    record { not_negative = omega (arith, ints); small = omega (arith, ints, less) }
product_bounds (negsuc m) h p q r s = absurd (omega (arith, ints))
product_bounds (pos m) (negsuc n) p q r s = absurd (omega (arith, ints))

area_is_count : (rect : Rect) → IsProper rect → IsNear rect → IsCount (area_of rect)
area_is_count rect proper near = product_bounds (rect.xhi -ℤ rect.xlo) (rect.yhi -ℤ rect.ylo)
    (omega (arith, ints, proper.wide)) (omega (arith, ints, near.xlo.0, near.xhi.1))
    (omega (arith, ints, proper.high)) (omega (arith, ints, near.ylo.0, near.yhi.1))

count_fits : (z : ℤ) → IsCount z → FitsSigned w64 z
count_fits z count = omega (arith, ints, count.not_negative, count.small)

-- the product that the area is computed by
pub area_by_product : (rect : Rect) (x y : ℤ) → x ≡ rect.xhi -ℤ rect.xlo → y ≡ rect.yhi -ℤ rect.ylo → x *ℤ y ≡ area_of rect
area_by_product rect x y width height = λ k. width k *ℤ height k

pub product_fits : (rect : Rect) (z : ℤ) → IsProper rect → IsNear rect → z ≡ area_of rect → FitsSigned w64 z
product_fits rect z proper near same = subst (λ (n : ℤ). FitsSigned w64 n) (sym same) (count_fits (area_of rect) (area_is_count rect proper near))

pub area_as_read : (rect : Rect) (z : ℤ) → IsProper rect → IsNear rect → z ≡ area_of rect → to_z w64 (of_z w64 z) ≡ area_of rect
area_as_read rect z proper near same = to_z-of_z w64 z (product_fits rect z proper near same) ∙ same
