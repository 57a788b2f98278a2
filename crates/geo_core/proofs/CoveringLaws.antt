-- The tests of covering and of having a square and the facts say the same, what a common part covers, and what lies within what.
use Rattle.geo_core.proofs.Common.{◌≡◌, arith, pos, ◌-ℤ◌, ints, clamps, Square, Rect, common_rect, joined_rect, LiesWithin, Covers, IsProper}
use Rattle.std.proofs.Common.{true, ◌≤ℤ◌, ◌<ℤ◌}
use Rattle.finite_sets.proofs.Orders.{at_most-trans, equal_from_both}
use Rattle.geo_core.specs.Areas.{corner_of, has_square, widened}
use Rattle.geo_core.specs.Covering.{is_covered}
use Rattle.geo_core.proofs.SquareLaws.{rect_is}

-- what passes the test is covered
pub Covers-is_covered : (area : Rect) (square : Square) → is_covered area square ≡ true → Covers area square
Covers-is_covered area square test = record {
  right_of_xlo = grind (arith, ints);
  left_of_xhi = grind (arith, ints);
  above_ylo = grind (arith, ints);
  below_yhi = grind (arith, ints);
}

-- what is covered passes the test
pub is_covered-Covers : (area : Rect) (square : Square) → Covers area square → is_covered area square ≡ true
is_covered-Covers area square covers = grind (arith, ints)

-- what passes the test has a square
pub IsProper-has_square : (area : Rect) → has_square area ≡ true → IsProper area
IsProper-has_square area test = record { wide = grind (arith, ints); high = grind (arith, ints) }

-- and a rectangle with a square passes it
pub has_square-IsProper : (area : Rect) → IsProper area → has_square area ≡ true
has_square-IsProper area proper = grind (arith, ints)

-- what lies within an area covers no square outside it
pub within_covers : (core area : Rect) (square : Square) → LiesWithin core area → Covers core square → Covers area square
within_covers core area square w c =
    let w0 : area.xlo ≤ℤ core.xlo = w.right_of_xlo in
    let w1 : area.ylo ≤ℤ core.ylo = w.above_ylo in
    let w2 : core.xhi ≤ℤ area.xhi = w.left_of_xhi in
    let w3 : core.yhi ≤ℤ area.yhi = w.below_yhi in
    let left : core.xlo ≤ℤ square.x = c.right_of_xlo in
    let right : square.x <ℤ core.xhi = c.left_of_xhi in
    let low : core.ylo ≤ℤ square.y = c.above_ylo in
    let high : square.y <ℤ core.yhi = c.below_yhi in
    record { right_of_xlo = omega (arith, ints); left_of_xhi = omega (arith, ints); above_ylo = omega (arith, ints); below_yhi = omega (arith, ints) }

-- a square of the common part lies in the first rectangle
pub covers_first : (a b : Rect) (square : Square) → Covers (common_rect a b) square → Covers a square
covers_first a b square c =
    let left : (common_rect a b).xlo ≤ℤ square.x = c.right_of_xlo in
    let right : square.x <ℤ (common_rect a b).xhi = c.left_of_xhi in
    let low : (common_rect a b).ylo ≤ℤ square.y = c.above_ylo in
    let high : square.y <ℤ (common_rect a b).yhi = c.below_yhi in
    record {
      right_of_xlo = omega (arith, ints, clamps);
      left_of_xhi = omega (arith, ints, clamps);
      above_ylo = omega (arith, ints, clamps);
      below_yhi = omega (arith, ints, clamps);
    }

-- a square of the common part lies in the second rectangle
pub covers_second : (a b : Rect) (square : Square) → Covers (common_rect a b) square → Covers b square
covers_second a b square c =
    let left : (common_rect a b).xlo ≤ℤ square.x = c.right_of_xlo in
    let right : square.x <ℤ (common_rect a b).xhi = c.left_of_xhi in
    let low : (common_rect a b).ylo ≤ℤ square.y = c.above_ylo in
    let high : square.y <ℤ (common_rect a b).yhi = c.below_yhi in
    record {
      right_of_xlo = omega (arith, ints, clamps);
      left_of_xhi = omega (arith, ints, clamps);
      above_ylo = omega (arith, ints, clamps);
      below_yhi = omega (arith, ints, clamps);
    }

-- a square of both rectangles lies in the common part
pub covers_both : (a b : Rect) (square : Square) → Covers a square → Covers b square → Covers (common_rect a b) square
covers_both a b square c d =
    let left : a.xlo ≤ℤ square.x = c.right_of_xlo in
    let right : square.x <ℤ a.xhi = c.left_of_xhi in
    let low : a.ylo ≤ℤ square.y = c.above_ylo in
    let high : square.y <ℤ a.yhi = c.below_yhi in
    let left' : b.xlo ≤ℤ square.x = d.right_of_xlo in
    let right' : square.x <ℤ b.xhi = d.left_of_xhi in
    let low' : b.ylo ≤ℤ square.y = d.above_ylo in
    let high' : square.y <ℤ b.yhi = d.below_yhi in
    record {
      right_of_xlo = omega (arith, ints, clamps);
      left_of_xhi = omega (arith, ints, clamps);
      above_ylo = omega (arith, ints, clamps);
      below_yhi = omega (arith, ints, clamps);
    }

-- a square of either rectangle lies in the one round both
pub covers_joined_left : (a b : Rect) (square : Square) → Covers a square → Covers (joined_rect a b) square
covers_joined_left a b square c =
    let left : a.xlo ≤ℤ square.x = c.right_of_xlo in
    let right : square.x <ℤ a.xhi = c.left_of_xhi in
    let low : a.ylo ≤ℤ square.y = c.above_ylo in
    let high : square.y <ℤ a.yhi = c.below_yhi in
    record {
      right_of_xlo = omega (arith, ints, clamps);
      left_of_xhi = omega (arith, ints, clamps);
      above_ylo = omega (arith, ints, clamps);
      below_yhi = omega (arith, ints, clamps);
    }

-- and what the second
pub covers_joined_right : (a b : Rect) (square : Square) → Covers b square → Covers (joined_rect a b) square
covers_joined_right a b square c =
    let left : b.xlo ≤ℤ square.x = c.right_of_xlo in
    let right : square.x <ℤ b.xhi = c.left_of_xhi in
    let low : b.ylo ≤ℤ square.y = c.above_ylo in
    let high : square.y <ℤ b.yhi = c.below_yhi in
    record {
      right_of_xlo = omega (arith, ints, clamps);
      left_of_xhi = omega (arith, ints, clamps);
      above_ylo = omega (arith, ints, clamps);
      below_yhi = omega (arith, ints, clamps);
    }

-- where neither of two goes past an edge, the one round both does not
pub joined_within : (a b area : Rect) → LiesWithin a area → LiesWithin b area → LiesWithin (joined_rect a b) area
joined_within a b area p q =
    let p0 : area.xlo ≤ℤ a.xlo = p.right_of_xlo in
    let p1 : area.ylo ≤ℤ a.ylo = p.above_ylo in
    let p2 : a.xhi ≤ℤ area.xhi = p.left_of_xhi in
    let p3 : a.yhi ≤ℤ area.yhi = p.below_yhi in
    let q0 : area.xlo ≤ℤ b.xlo = q.right_of_xlo in
    let q1 : area.ylo ≤ℤ b.ylo = q.above_ylo in
    let q2 : b.xhi ≤ℤ area.xhi = q.left_of_xhi in
    let q3 : b.yhi ≤ℤ area.yhi = q.below_yhi in
    record {
      right_of_xlo = omega (arith, ints, clamps);
      above_ylo = omega (arith, ints, clamps);
      left_of_xhi = omega (arith, ints, clamps);
      below_yhi = omega (arith, ints, clamps);
    }

-- a rectangle that covers a square has one
pub covers_is_proper : (area : Rect) (square : Square) → Covers area square → IsProper area
covers_is_proper area square covers =
    let left : area.xlo ≤ℤ square.x = covers.right_of_xlo in
    let right : square.x <ℤ area.xhi = covers.left_of_xhi in
    let low : area.ylo ≤ℤ square.y = covers.above_ylo in
    let high : square.y <ℤ area.yhi = covers.below_yhi in
    record { wide = omega (arith, ints); high = omega (arith, ints) }

-- a rectangle with a square covers its corner
pub corner_covered : (area : Rect) → IsProper area → Covers area (corner_of area)
corner_covered area proper = record {
  right_of_xlo = omega (arith, ints);
  left_of_xhi = proper.wide;
  above_ylo = omega (arith, ints);
  below_yhi = proper.high;
}

-- what lies within what lies within a rectangle lies within it
pub within_trans : (a b c : Rect) → LiesWithin a b → LiesWithin b c → LiesWithin a c
within_trans a b c p q = record {
  right_of_xlo = at_most-trans c.xlo b.xlo a.xlo q.right_of_xlo p.right_of_xlo;
  above_ylo = at_most-trans c.ylo b.ylo a.ylo q.above_ylo p.above_ylo;
  left_of_xhi = at_most-trans a.xhi b.xhi c.xhi p.left_of_xhi q.left_of_xhi;
  below_yhi = at_most-trans a.yhi b.yhi c.yhi p.below_yhi q.below_yhi;
}

-- rectangles of which each lies within the other are one
pub within_antisym : (a b : Rect) → LiesWithin a b → LiesWithin b a → a ≡ b
within_antisym a b p q =
    rect_is a b
    (equal_from_both a.xlo b.xlo q.right_of_xlo p.right_of_xlo)
    (equal_from_both a.ylo b.ylo q.above_ylo p.above_ylo)
    (equal_from_both a.xhi b.xhi p.left_of_xhi q.left_of_xhi)
    (equal_from_both a.yhi b.yhi p.below_yhi q.below_yhi)

-- the first of two rectangles lies within the one that goes round both
pub within_joined_first : (a b : Rect) → LiesWithin a (joined_rect a b)
within_joined_first a b = record {
  right_of_xlo = omega (arith, ints, clamps);
  above_ylo = omega (arith, ints, clamps);
  left_of_xhi = omega (arith, ints, clamps);
  below_yhi = omega (arith, ints, clamps);
}

-- the second of two rectangles lies within the one that goes round both
pub within_joined_second : (a b : Rect) → LiesWithin b (joined_rect a b)
within_joined_second a b = record {
  right_of_xlo = omega (arith, ints, clamps);
  above_ylo = omega (arith, ints, clamps);
  left_of_xhi = omega (arith, ints, clamps);
  below_yhi = omega (arith, ints, clamps);
}

-- the common part of two rectangles lies within the second
pub common_within : (a b : Rect) → LiesWithin (common_rect a b) b
common_within a b = record {
  right_of_xlo = omega (arith, ints, clamps);
  above_ylo = omega (arith, ints, clamps);
  left_of_xhi = omega (arith, ints, clamps);
  below_yhi = omega (arith, ints, clamps);
}

-- a square of a rectangle is one of the rectangle grown by one
pub covers_widened : (area : Rect) (square : Square) → Covers area square → Covers (widened area) square
covers_widened area square covers =
    let left : area.xlo ≤ℤ square.x = covers.right_of_xlo in
    let right : square.x <ℤ area.xhi = covers.left_of_xhi in
    let low : area.ylo ≤ℤ square.y = covers.above_ylo in
    let high : square.y <ℤ area.yhi = covers.below_yhi in
    record {
      right_of_xlo = omega (arith, ints);
      left_of_xhi = omega (arith, ints);
      above_ylo = omega (arith, ints);
      below_yhi = omega (arith, ints);
    }

-- a rectangle whose squares an area covers lies within it
pub filled_within : (core area : Rect) → IsProper core → ((square : Square) → Covers core square → Covers area square) → LiesWithin core area
filled_within core area proper each =
    let low : Covers area (record { x = core.xlo; y = core.ylo }) = each (record { x = core.xlo; y = core.ylo }) (omega (arith, ints)) in
    let high : Covers area (record { x = core.xhi -ℤ pos 1; y = core.yhi -ℤ pos 1 }) =
    each (record { x = core.xhi -ℤ pos 1; y = core.yhi -ℤ pos 1 }) (omega (arith, ints)) in
    omega (arith, ints)
