-- The strips of what grown boxes share lie within what goes round all of them.
use Rattle.interact.proofs.Common.{◌≤ℤ◌, ◌<ℤ◌, pos, List, map, subst, arith, All, ints, slice_get_within, get_or_from_slice_get, In, In-get_or}
use Rattle.interact.proofs.Common.{In-index, Square, Rect, widened, LiesWithin, Covers, IsShared}
use Rattle.std.proofs.Common.{◌-ℤ◌}
use Rattle.finite_sets.proofs.Members.{In-map_source}
use Rattle.finite_sets.proofs.Searches.{All-from_In}
use Rattle.geo_core.specs.Strips.{IsStrip, IsStrips}
use Rattle.geo_core.proofs.CoveringLaws.{within_covers}
use Rattle.geo_core.proofs.StripSets.{strip_is_proper, strip_within}

-- each square that two grown boxes share lies in what goes round all of them
shared_within : (boxes : List Rect) (around : Rect) → All (λ area. LiesWithin (widened area) around) boxes → (square : Square) → IsShared boxes square
    → Covers around square
shared_within boxes around all square shared =
    let at = shared.in_first in
    let index = shared.first in
    let widened_boxes = map widened boxes in
    let inside = slice_get_within widened_boxes index at.area at.there in
    let there : In at.area widened_boxes =
    subst (λ (area : Rect). In area widened_boxes) (get_or_from_slice_get widened_boxes index at.area at.area at.there)
    (In-get_or widened_boxes index at.area inside) in
    let source = In-map_source widened at.area boxes there in
    let k = In-index source.0 boxes source.1.0 in
    let near : LiesWithin (widened source.0) around =
    subst (λ (area : Rect). LiesWithin (widened area) around) (k.1.1 source.0) (all k.0 source.0 k.1.0) in
    let within : LiesWithin at.area around = subst (λ (area : Rect). LiesWithin area around) source.1.1 near in
    within_covers at.area around square within at.covers

-- so does each of the strips
strip_lies_within : (S : Square → Type 0) (around area : Rect) → ((square : Square) → S square → Covers around square) → IsStrip S area
    → LiesWithin area around
strip_lies_within S around area covers strip =
    let proper = strip_is_proper S area strip in
    let wide : area.xlo <ℤ area.xhi = proper.wide in
    let high : area.ylo <ℤ area.yhi = proper.high in
    let lowest = covers (record { x = area.xlo; y = area.ylo }) (strip_within S area strip area.xlo area.ylo
    (record { right_of_xlo = omega (arith, ints); left_of_xhi = wide; above_ylo = omega (arith, ints); below_yhi = high })) in
    let highest = covers (record { x = area.xhi -ℤ pos 1; y = area.yhi -ℤ pos 1 }) (strip_within S area strip (area.xhi -ℤ pos 1) (area.yhi -ℤ pos 1)
    (record {
      right_of_xlo = omega (arith, ints);
      left_of_xhi = omega (arith, ints);
      above_ylo = omega (arith, ints);
      below_yhi = omega (arith, ints);
    })) in
    let left : around.xlo ≤ℤ area.xlo = lowest.right_of_xlo in
    let low : around.ylo ≤ℤ area.ylo = lowest.above_ylo in
    let right : (area.xhi -ℤ pos 1) <ℤ around.xhi = highest.left_of_xhi in
    let top : (area.yhi -ℤ pos 1) <ℤ around.yhi = highest.below_yhi in
    record { right_of_xlo = left; above_ylo = low; left_of_xhi = omega (arith, ints); below_yhi = omega (arith, ints) }

-- what goes round all grown boxes goes round the strips of what two of them share
pub strips_lie_within : (boxes areas : List Rect) (around : Rect) → IsStrips (IsShared boxes) areas
    → All (λ area. LiesWithin (widened area) around) boxes
    → All (λ area. LiesWithin area around) areas
strips_lie_within boxes areas around strips all =
    All-from_In (λ (area : Rect). LiesWithin area around) areas
    (λ area i. strip_lies_within (IsShared boxes) around area (shared_within boxes around all) (strips.each area i))
