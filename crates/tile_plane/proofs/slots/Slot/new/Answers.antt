use Rattle.tile_plane.proofs.Common.{◌≡◌, ℤ, ◌≤ℤ◌, w64, to_z, of_z, refl, ◌∙◌, ap, arith, ints, to_z-of_z}
use Rattle.std.proofs.Common.{neg_ℤ, w32}
use Rattle.geo_core.specs.declared.limits.TheConstants.{PLANE_EDGE}
use Rattle.tile_plane.proofs.slots.Slot.new.Goals as goal

-- a bound within the range of a plane is kept in 32 bits
kept : (z : ℤ) → neg_ℤ PLANE_EDGE ≤ℤ z → z ≤ℤ PLANE_EDGE → to_z w32 (of_z w32 (to_z w64 (of_z w64 z))) ≡ z
kept z low high =
    ap (λ (v : ℤ). to_z w32 (of_z w32 v)) (to_z-of_z w64 z (omega (arith, ints))) ∙ to_z-of_z w32 z (omega (arith, ints))

pub returns : goal.returns
returns c =
    let area = c.args.tile.now.area in
    let left = kept area.xlo c.requires.within.right_of_xlo (omega (arith, ints)) in
    let low = kept area.ylo c.requires.within.above_ylo (omega (arith, ints)) in
    let right = kept area.xhi (omega (arith, ints)) c.requires.within.left_of_xhi in
    let high = kept area.yhi (omega (arith, ints)) c.requires.within.below_yhi in
    rw (left, low, right, high) refl
