-- Bounds of rectangles: what lies within them, and that they fit 64 bits with what a square reaches added.
use Rattle.square_sets.proofs.Common.{◌≡◌, ℤ, pos, ◌+ℤ◌, ◌-ℤ◌, ◌≤ℤ◌, ◌<ℤ◌, List, w64, to_z, of_z, refl, rules, arith, All, ints, to_z-of_z, All-In}
use Rattle.square_sets.proofs.Common.{All-from_In, PLANE_EDGE, Square, Rect, LiesWithin, Covers, IsProper, IsInUnion, SET_EDGE, IsBounded, IsReach}
use Rattle.std.specs.Prelude.{neg_ℤ}
use Rattle.geo_core.specs.Areas.{corner_of}
use Rattle.geo_core.proofs.CoveringLaws.{corner_covered, within_covers, within_trans}
use Rattle.square_sets.specs.declared.limits.TheConstants.{MOST_REACH}

-- what covers no square but those of other rectangles lies within what these lie within
pub union_within : (areas found : List Rect) (around : Rect) → All (λ area. LiesWithin area around) areas → All IsProper found
    → ((square : Square) → IsInUnion found square → IsInUnion areas square) → All (λ area. LiesWithin area around) found
union_within areas found around all proper covered = All-from_In (λ (area : Rect). LiesWithin area around) found (λ area i.
    let has = All-In IsProper found area proper i in
    let wide : area.xlo <ℤ area.xhi = has.wide in
    let high : area.ylo <ℤ area.yhi = has.high in
    let inside : (square : Square) → Covers area square → Covers around square = λ square c. (let under = covered square (area, (i, c)) in
    within_covers under.0 around square (All-In (λ (other : Rect). LiesWithin other around) areas under.0 all under.1.0) under.1.1) in
    let first = inside (corner_of area) (corner_covered area has) in
    let last = inside (record { x = area.xhi -ℤ pos 1; y = area.yhi -ℤ pos 1 }) (record {
      right_of_xlo = omega (arith, ints);
      left_of_xhi = omega (arith, ints);
      above_ylo = omega (arith, ints);
      below_yhi = omega (arith, ints);
    }) in
    let right : (area.xhi -ℤ pos 1) <ℤ around.xhi = last.left_of_xhi in
    let top : (area.yhi -ℤ pos 1) <ℤ around.yhi = last.below_yhi in
    let is : LiesWithin area around = record {
      right_of_xlo = first.right_of_xlo;
      above_ylo = first.above_ylo;
      left_of_xhi = omega (arith, ints);
      below_yhi = omega (arith, ints);
    } in
    is)

-- what goes nowhere past the edge of sets goes nowhere past that of planes
pub within_plane : (area : Rect) → IsBounded SET_EDGE area → IsBounded PLANE_EDGE area
within_plane area bounded = within_trans area _ _ bounded (record {
  right_of_xlo = omega (arith, ints);
  above_ylo = omega (arith, ints);
  left_of_xhi = omega (arith, ints);
  below_yhi = omega (arith, ints);
})

-- an integer that is not past the edge of planes
abbrev pub IsHeld : ℤ → Type 0
IsHeld z = (neg_ℤ PLANE_EDGE ≤ℤ z) × (z ≤ℤ PLANE_EDGE)

-- no bound of a rectangle with squares is past it
pub bounds_held : (area : Rect) → IsProper area → IsBounded PLANE_EDGE area → IsHeld area.xlo × IsHeld area.ylo × IsHeld area.xhi × IsHeld area.yhi
bounds_held area proper b =
    let wide : area.xlo <ℤ area.xhi = proper.wide in
    let high : area.ylo <ℤ area.yhi = proper.high in
    let left : neg_ℤ PLANE_EDGE ≤ℤ area.xlo = b.right_of_xlo in
    let low : neg_ℤ PLANE_EDGE ≤ℤ area.ylo = b.above_ylo in
    let right : area.xhi ≤ℤ PLANE_EDGE = b.left_of_xhi in
    let top : area.yhi ≤ℤ PLANE_EDGE = b.below_yhi in
    ((left, omega (arith, ints)), (low, omega (arith, ints)), (omega (arith, ints), right), (omega (arith, ints), top))

-- a bound less a reach fits
pub bound_less : (z by : ℤ) → IsHeld z → IsReach by → to_z w64 (of_z w64 (to_z w64 (of_z w64 z) -ℤ to_z w64 (of_z w64 by))) ≡ z -ℤ by
bound_less z by held reach =
    let low : neg_ℤ PLANE_EDGE ≤ℤ z = held.0 in
    let high : z ≤ℤ PLANE_EDGE = held.1 in
    let least : pos 0 ≤ℤ by = reach.0 in
    let whole : to_z w64 (of_z w64 z) ≡ z = to_z-of_z w64 z (search (rules, ints)) in
    let part : to_z w64 (of_z w64 by) ≡ by = to_z-of_z w64 by (search (rules, ints, reach.1)) in
    let all : to_z w64 (of_z w64 (z -ℤ by)) ≡ z -ℤ by = to_z-of_z w64 (z -ℤ by) (search (rules, ints, reach.1)) in
    rw (whole, part, all) refl

-- so does a bound with a reach added
pub bound_more : (z by : ℤ) → IsHeld z → IsReach by → to_z w64 (of_z w64 (to_z w64 (of_z w64 z) +ℤ to_z w64 (of_z w64 by))) ≡ z +ℤ by
bound_more z by held reach =
    let low : neg_ℤ PLANE_EDGE ≤ℤ z = held.0 in
    let high : z ≤ℤ PLANE_EDGE = held.1 in
    let least : pos 0 ≤ℤ by = reach.0 in
    let whole : to_z w64 (of_z w64 z) ≡ z = to_z-of_z w64 z (search (rules, ints)) in
    let part : to_z w64 (of_z w64 by) ≡ by = to_z-of_z w64 by (search (rules, ints, reach.1)) in
    let all : to_z w64 (of_z w64 (z +ℤ by)) ≡ z +ℤ by = to_z-of_z w64 (z +ℤ by) (search (rules, ints, reach.1)) in
    rw (whole, part, all) refl

-- and a bound alone
pub bound_same : (z : ℤ) → IsHeld z → to_z w64 (of_z w64 z) ≡ z
bound_same z held = let low : neg_ℤ PLANE_EDGE ≤ℤ z = held.0 in let high : z ≤ℤ PLANE_EDGE = held.1 in to_z-of_z w64 z (search (rules, ints))

-- how far the corner of a box of d reaches
pub corner_reach : (d : ℤ) → pos 1 ≤ℤ d → d ≤ℤ MOST_REACH → to_z w64 (of_z w64 (to_z w64 (of_z w64 d) -ℤ pos 1)) ≡ d -ℤ pos 1
corner_reach d least most = bound_less d (pos 1) (omega (arith, ints), omega (arith, ints)) (omega (arith, ints), omega (arith, ints))
