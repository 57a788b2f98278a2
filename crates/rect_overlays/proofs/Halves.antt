-- Cutting an area in two: the sides along which a rectangle cuts it, and the halves.
use Rattle.rect_overlays.proofs.Common.{◌≡◌, ◌⊎◌, inl, inr, true, false, ◌≤ℤ◌, ◌<ℤ◌, arith, ints, Square, Rect, common_rect, AreDisjoint, Covers}
use Rattle.rect_overlays.proofs.Common.{IsProper, IsProper-has_square, has_square-IsProper, Cut, Column, Row, low_half, high_half, IsInside, meets}
use Rattle.std.proofs.lemmas.Int.{clamps}
use Rattle.std.specs.Cmp.{both_ways}
use Rattle.geo_core.proofs.FiniteSets.Orders.{at_most_or_greater}
use Rattle.rect_overlays.specs.steps.Cuts.{is_past_low, is_past_high}
use Rattle.rect_overlays.specs.steps.Regions.{goes_round}

-- where a rectangle begins above the lowest row of an area that it meets, its lower side cuts the area
pub begins_inside : (area : Rect) (rect : Rect) → meets area rect ≡ true → area.ylo <ℤ rect.ylo → rect.ylo <ℤ area.yhi
begins_inside area rect meet above =
    let common = common_rect rect area in
    let high : common.ylo <ℤ common.yhi = (IsProper-has_square common meet).high in
    omega (arith, ints, clamps)

-- and where it has all columns of the area and begins no higher, its upper side does, unless it goes round the area
pub ends_inside : (area : Rect) (rect : Rect) → meets area rect ≡ true → goes_round area rect ≡ false → rect.xlo ≤ℤ area.xlo
    → area.xhi ≤ℤ rect.xhi → rect.ylo ≤ℤ area.ylo → (area.ylo <ℤ rect.yhi) × (rect.yhi <ℤ area.yhi)
ends_inside area rect meet partial left right low =
    let common = common_rect rect area in
    let high : common.ylo <ℤ common.yhi = (IsProper-has_square common meet).high in
    (omega (arith, ints, clamps), grind (arith, ints))

-- both halves of an area have squares
pub low_is_proper : (area : Rect) (cut : Cut) → IsProper area → IsInside area cut → IsProper (low_half area cut)
low_is_proper area (Column x) proper inside = record { wide = inside.0; high = proper.high }
low_is_proper area (Row y) proper inside = record { wide = proper.wide; high = inside.0 }

pub high_is_proper : (area : Rect) (cut : Cut) → IsProper area → IsInside area cut → IsProper (high_half area cut)
high_is_proper area (Column x) proper inside = record { wide = inside.1; high = proper.high }
high_is_proper area (Row y) proper inside = record { wide = proper.wide; high = inside.1 }

-- what lies in a half lies in the area
pub low_covers : (area : Rect) (cut : Cut) → IsInside area cut → (square : Square) → Covers (low_half area cut) square → Covers area square
low_covers area (Column x) inside square c =
    let below : square.x <ℤ x = c.left_of_xhi in
    let less : x <ℤ area.xhi = inside.1 in
    record { right_of_xlo = c.right_of_xlo; left_of_xhi = omega (arith, ints); above_ylo = c.above_ylo; below_yhi = c.below_yhi }
low_covers area (Row y) inside square c =
    let below : square.y <ℤ y = c.below_yhi in
    let less : y <ℤ area.yhi = inside.1 in
    record { right_of_xlo = c.right_of_xlo; left_of_xhi = c.left_of_xhi; above_ylo = c.above_ylo; below_yhi = omega (arith, ints) }

pub high_covers : (area : Rect) (cut : Cut) → IsInside area cut → (square : Square) → Covers (high_half area cut) square → Covers area square
high_covers area (Column x) inside square c =
    let above : x ≤ℤ square.x = c.right_of_xlo in
    let less : area.xlo <ℤ x = inside.0 in
    record { right_of_xlo = omega (arith, ints); left_of_xhi = c.left_of_xhi; above_ylo = c.above_ylo; below_yhi = c.below_yhi }
high_covers area (Row y) inside square c =
    let above : y ≤ℤ square.y = c.above_ylo in
    let less : area.ylo <ℤ y = inside.0 in
    record { right_of_xlo = c.right_of_xlo; left_of_xhi = c.left_of_xhi; above_ylo = omega (arith, ints); below_yhi = c.below_yhi }

-- what lies in the area lies in one half
pub in_one_half : (area : Rect) (cut : Cut) (square : Square) → Covers area square
    → Covers (low_half area cut) square ⊎ Covers (high_half area cut) square
in_one_half area (Column x) square c = elim (at_most_or_greater x square.x) [
  | inl right ↦ inr (record { right_of_xlo = right; left_of_xhi = c.left_of_xhi; above_ylo = c.above_ylo; below_yhi = c.below_yhi })
  | inr left ↦ inl (record { right_of_xlo = c.right_of_xlo; left_of_xhi = left; above_ylo = c.above_ylo; below_yhi = c.below_yhi })
]
in_one_half area (Row y) square c = elim (at_most_or_greater y square.y) [
  | inl above ↦ inr (record { right_of_xlo = c.right_of_xlo; left_of_xhi = c.left_of_xhi; above_ylo = above; below_yhi = c.below_yhi })
  | inr below ↦ inl (record { right_of_xlo = c.right_of_xlo; left_of_xhi = c.left_of_xhi; above_ylo = c.above_ylo; below_yhi = below })
]

-- and in no more than one
pub halves_are_apart : (area : Rect) (cut : Cut) → AreDisjoint (low_half area cut) (high_half area cut)
halves_are_apart area (Column x) square low high =
    let left : square.x <ℤ x = low.left_of_xhi in
    let right : x ≤ℤ square.x = high.right_of_xlo in
    omega (arith, ints)
halves_are_apart area (Row y) square low high =
    let below : square.y <ℤ y = low.below_yhi in
    let above : y ≤ℤ square.y = high.above_ylo in
    omega (arith, ints)

-- a rectangle that goes round an area covers each square of it
pub round_covers : (area : Rect) (rect : Rect) (square : Square) → goes_round area rect ≡ true → Covers area square → Covers rect square
round_covers area rect square round c =
    let left : area.xlo ≤ℤ square.x = c.right_of_xlo in
    let right : square.x <ℤ area.xhi = c.left_of_xhi in
    let low : area.ylo ≤ℤ square.y = c.above_ylo in
    let high : square.y <ℤ area.yhi = c.below_yhi in
    record {
      right_of_xlo = grind (arith, ints);
      left_of_xhi = grind (arith, ints);
      above_ylo = grind (arith, ints);
      below_yhi = grind (arith, ints);
    }

-- a rectangle with a square in an area goes past a cut just if it has one in that half
pub past_low : (area : Rect) (cut : Cut) (rect : Rect) → IsInside area cut → meets area rect ≡ true
    → is_past_low cut rect ≡ meets (low_half area cut) rect
past_low area (Column x) rect inside meet =
    let common = common_rect rect area in
    let both = IsProper-has_square common meet in
    let wide : common.xlo <ℤ common.xhi = both.wide in
    let half = common_rect rect (low_half area (Column x)) in
    both_ways (is_past_low (Column x) rect) (meets (low_half area (Column x)) rect)
    (λ past. let less : rect.xlo <ℤ x = grind (arith, ints) in
    has_square-IsProper half (record { wide = omega (arith, ints, clamps, inside.0); high = both.high }))
    (λ met. let less : half.xlo <ℤ half.xhi = (IsProper-has_square half met).wide in
    let low : rect.xlo <ℤ x = omega (arith, ints, clamps) in
    grind (arith, ints))
past_low area (Row y) rect inside meet =
    let common = common_rect rect area in
    let both = IsProper-has_square common meet in
    let high : common.ylo <ℤ common.yhi = both.high in
    let half = common_rect rect (low_half area (Row y)) in
    both_ways (is_past_low (Row y) rect) (meets (low_half area (Row y)) rect)
    (λ past. let less : rect.ylo <ℤ y = grind (arith, ints) in
    has_square-IsProper half (record { wide = both.wide; high = omega (arith, ints, clamps, inside.0) }))
    (λ met. let less : half.ylo <ℤ half.yhi = (IsProper-has_square half met).high in
    let low : rect.ylo <ℤ y = omega (arith, ints, clamps) in
    grind (arith, ints))

pub past_high : (area : Rect) (cut : Cut) (rect : Rect) → IsInside area cut → meets area rect ≡ true
    → is_past_high cut rect ≡ meets (high_half area cut) rect
past_high area (Column x) rect inside meet =
    let common = common_rect rect area in
    let both = IsProper-has_square common meet in
    let wide : common.xlo <ℤ common.xhi = both.wide in
    let half = common_rect rect (high_half area (Column x)) in
    both_ways (is_past_high (Column x) rect) (meets (high_half area (Column x)) rect)
    (λ past. let less : x <ℤ rect.xhi = grind (arith, ints) in
    has_square-IsProper half (record { wide = omega (arith, ints, clamps, inside.1); high = both.high }))
    (λ met. let less : half.xlo <ℤ half.xhi = (IsProper-has_square half met).wide in
    let high : x <ℤ rect.xhi = omega (arith, ints, clamps) in
    grind (arith, ints))
past_high area (Row y) rect inside meet =
    let common = common_rect rect area in
    let both = IsProper-has_square common meet in
    let high : common.ylo <ℤ common.yhi = both.high in
    let half = common_rect rect (high_half area (Row y)) in
    both_ways (is_past_high (Row y) rect) (meets (high_half area (Row y)) rect)
    (λ past. let less : y <ℤ rect.yhi = grind (arith, ints) in
    has_square-IsProper half (record { wide = both.wide; high = omega (arith, ints, clamps, inside.1) }))
    (λ met. let less : half.ylo <ℤ half.yhi = (IsProper-has_square half met).high in
    let above : y <ℤ rect.yhi = omega (arith, ints, clamps) in
    grind (arith, ints))
