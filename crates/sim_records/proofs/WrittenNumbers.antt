-- The numbers of sim records are those that a sim text can have.
use Rattle.sim_records.proofs.Common.{◌≡◌, ◌<◌, ℕ, ℤ, ◌+ℤ◌, arith, w128}
use Rattle.std.proofs.Common.{◌/◌, pos, negsuc, ◌<ℤ◌, Bool, true, false, cond, FitsSigned}
use Rattle.std.specs.Int.{int_max, int_div_euclid}
use Rattle.std.specs.Prelude.{int_lt, ◌^◌}
use Rattle.std.proofs.lemmas.Int.{ints}
use Rattle.std.proofs.Math.Nat.{div-le_self}
use Rattle.sim_text.specs.Parts.{is_within_edge}
use Rattle.sim_records.specs.declared.limits.TheConstants.{ATTOFARADS_IN_A_UNIT}
use Rattle.sim_records.specs.Switches.{width_of, length_of}

either_fits : (b : Bool) (x y : ℤ) → FitsSigned w128 x → FitsSigned w128 y → FitsSigned w128 (cond b x y)
either_fits true x y p q = p
either_fits false x y p q = q

one_fits : FitsSigned w128 (pos 1)
one_fits = record { sfits = omega arith }

max_fits : (x : ℤ) → FitsSigned w128 x → FitsSigned w128 (int_max x (pos 1))
max_fits x fits = either_fits (int_lt (pos 1) x) x (pos 1) fits one_fits

-- half of what is below 2^128
width_fits : (lengths : ℤ) → lengths <ℤ pos (2 ^ 128) → FitsSigned w128 (width_of lengths)
width_fits (pos n) below =
    let half : n / 2 < 2 ^ 127 = omega (arith, ints, below) in
    max_fits (pos (n / 2)) (record { sfits = half })
width_fits (negsuc n) below = one_fits

pub width_of-fits : (z : ℤ) → FitsSigned w128 z → FitsSigned w128 (width_of z)
width_of-fits z fits = width_fits z (omega (arith, ints, fits))

pub width_of-pair-fits : (y z : ℤ) → FitsSigned w128 y → FitsSigned w128 z → FitsSigned w128 (width_of (y +ℤ z))
width_of-pair-fits y z a b = width_fits (y +ℤ z) (omega (arith, ints, a, b))

-- an area over a width that is not negative
quotient_fits : (area : ℤ) (width : ℕ) → FitsSigned w128 area → FitsSigned w128 (length_of area (pos width))
quotient_fits (pos n) width fits =
    let small : n < 2 ^ 127 = fits.sfits in
    let part = div-le_self n width in
    max_fits (pos (n / width)) (record { sfits = omega (arith, small, part) })
quotient_fits (negsuc n) width fits = one_fits

length_fits : (area : ℤ) (half : ℕ) (above : Bool) → FitsSigned w128 area → FitsSigned w128 (length_of area (cond above (pos half) (pos 1)))
length_fits area half true fits = quotient_fits area half fits
length_fits area half false fits = quotient_fits area 1 fits

pub length_of-fits : (area lengths : ℤ) → FitsSigned w128 area → FitsSigned w128 (length_of area (width_of lengths))
length_of-fits area (pos n) fits = length_fits area (n / 2) (int_lt (pos 1) (pos (n / 2))) fits
length_of-fits area (negsuc n) fits = quotient_fits area 1 fits

-- a thousandth is below 2^120
pub thousandth-within : (z : ℤ) → FitsSigned w128 z → is_within_edge (int_div_euclid z ATTOFARADS_IN_A_UNIT) ≡ true
thousandth-within (pos n) fits = let small : n < 2 ^ 127 = fits.sfits in grind (arith, ints)
thousandth-within (negsuc n) fits = let small : n < 2 ^ 127 = fits.sfits in grind (arith, ints)
