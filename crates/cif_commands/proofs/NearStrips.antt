-- The strips of the layers of an expanded text are near.
use Rattle.cif_commands.proofs.Common.{ℕ, pos, List, arith, All, Rect, Square, CifParts, IsMeant, LayerStrips, IsExpanded, StaysInRange}
use Rattle.std.proofs.Common.{◌-ℤ◌, ◌≤ℤ◌, ◌<ℤ◌}
use Rattle.std.specs.Prelude.{neg_ℤ}
use Rattle.std.proofs.lemmas.Int.{ints}
use Rattle.geo_core.specs.declared.limits.TheConstants.{PAINT_EDGE}
use Rattle.geo_core.specs.Strips.{IsStrip}
use Rattle.geo_core.proofs.CoveringLaws.{corner_covered}
use Rattle.geo_core.proofs.FiniteSets.Places.{slice_get-In}
use Rattle.geo_core.proofs.FiniteSets.Searches.{All-from_In}
use Rattle.geo_core.proofs.StripSets.{strip_is_proper, strip_within}
use Rattle.cif_commands.specs.steps.Layers.{HasNearStrips, IsNearStrip}

-- a square that the text gives to some layer lies in the range
record LiesInRange (square : Square) : Type 0 where
  left : neg_ℤ PAINT_EDGE ≤ℤ square.x
  right : square.x <ℤ PAINT_EDGE
  low : neg_ℤ PAINT_EDGE ≤ℤ square.y
  high : square.y <ℤ PAINT_EDGE

square_in_range : (cif : CifParts) (place : ℕ) (square : Square) → StaysInRange cif → IsMeant cif place square → LiesInRange square
square_in_range cif place square range (calls, (box, (stands, covers))) =
    let within = range place box (calls, stands) in
    let a : neg_ℤ PAINT_EDGE ≤ℤ box.xlo = within.xlo.low in
    let b : box.xhi ≤ℤ PAINT_EDGE = within.xhi.high in
    let c : neg_ℤ PAINT_EDGE ≤ℤ box.ylo = within.ylo.low in
    let d : box.yhi ≤ℤ PAINT_EDGE = within.yhi.high in
    let e : box.xlo ≤ℤ square.x = covers.right_of_xlo in
    let f : square.x <ℤ box.xhi = covers.left_of_xhi in
    let g : box.ylo ≤ℤ square.y = covers.above_ylo in
    let h : square.y <ℤ box.yhi = covers.below_yhi in
    record { left = omega (arith, ints); right = omega (arith, ints); low = omega (arith, ints); high = omega (arith, ints) }

-- so a strip of such squares is near, as its corners tell
near_strip : (cif : CifParts) (place : ℕ) (strip : Rect) → StaysInRange cif → IsStrip (IsMeant cif place) strip → IsNearStrip strip
near_strip cif place strip range is =
    let S = IsMeant cif place in
    let proper = strip_is_proper S strip is in
    let wide : strip.xlo <ℤ strip.xhi = proper.wide in
    let tall : strip.ylo <ℤ strip.yhi = proper.high in
    let first = square_in_range cif place _ range (strip_within S strip is strip.xlo strip.ylo (corner_covered strip proper)) in
    let last = square_in_range cif place _ range (strip_within S strip is (strip.xhi -ℤ pos 1) (strip.yhi -ℤ pos 1) (record {
      right_of_xlo = omega (arith, ints);
      left_of_xhi = omega (arith, ints);
      above_ylo = omega (arith, ints);
      below_yhi = omega (arith, ints);
    })) in
    let left : neg_ℤ PAINT_EDGE ≤ℤ strip.xlo = first.left in
    let low : neg_ℤ PAINT_EDGE ≤ℤ strip.ylo = first.low in
    let right : (strip.xhi -ℤ pos 1) <ℤ PAINT_EDGE = last.right in
    let high : (strip.yhi -ℤ pos 1) <ℤ PAINT_EDGE = last.high in
    record {
      proper = proper;
      near = record {
        xlo = (omega (arith, ints), omega (arith, ints));
        ylo = (omega (arith, ints), omega (arith, ints));
        xhi = (omega (arith, ints), omega (arith, ints));
        yhi = (omega (arith, ints), omega (arith, ints));
      };
    }

-- and so are all strips of all layers
pub near_layers : (cif : CifParts) (layers : List LayerStrips) → IsExpanded cif layers → All HasNearStrips layers
near_layers cif layers is = All-from_In HasNearStrips layers (λ layer among.
    let (place, there) = slice_get-In layer layers among in
    All-from_In IsNearStrip layer.strips (λ strip here. near_strip cif place strip is.in_range ((is.strips place layer there).each strip here)))
