-- How large areas and perimeters can be.
use Rattle.std.specs.Prelude.{◌<◌, ◌^◌, ℤ, pos, neg_ℤ, ◌≤ℤ◌}
use Rattle.geo_core.specs.FiniteSets.Range.{IsBetween}
use Rattle.geo_core.specs.declared.limits.TheConstants.{PLANE_EDGE}
use Rattle.tech_model.specs.declared.limits.TheConstants.{MOST_PLANES}
use Rattle.layout_model.specs.Places.{Place}

-- The place lies on one of the planes that there may be, between their edges.
pub record IsNearPlace (place : Place) : Type 0 where
  pub plane : place.plane < MOST_PLANES
  pub x : IsBetween (neg_ℤ PLANE_EDGE) PLANE_EDGE place.square.x
  pub y : IsBetween (neg_ℤ PLANE_EDGE) PLANE_EDGE place.square.y

-- An area of at most 2^61 squares, and a perimeter of at most 2^63 edges. Neither is negative.
pub record IsSmallMeasure (measure : ℤ × ℤ) : Type 0 where
  pub some_area : pos 0 ≤ℤ measure.0
  pub most_area : measure.0 ≤ℤ pos (2 ^ 61)
  pub some_edges : pos 0 ≤ℤ measure.1
  pub most_edges : measure.1 ≤ℤ pos (2 ^ 63)
