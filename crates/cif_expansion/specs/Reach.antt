-- How far a transform moves, and which boxes lie within the range.
use Rattle.std.specs.Prelude.{◌^◌, ℕ, ℤ, pos, neg_ℤ, ◌≤ℤ◌}
use Rattle.geo_core.specs.declared.limits.TheConstants.{PAINT_EDGE}
use Rattle.geo_core.specs.declared.squares.Rect.{Rect}
use Rattle.geo_core.specs.declared.transforms.Transform.{Transform}

-- At most so far in either direction.
pub record IsAtMost (reach : ℕ) (z : ℤ) : Type 0 where
  pub low : neg_ℤ (pos reach) ≤ℤ z
  pub high : z ≤ℤ pos reach

-- The transform moves so far at most, to either side, upward and downward.
pub record MovesWithin (reach : ℕ) (transform : Transform) : Type 0 where
  pub dx : IsAtMost reach transform.dx
  pub dy : IsAtMost reach transform.dy

-- as far as the steps of a call move: there are fewer than 2^64, and none moves by 2^53
abbrev pub call_reach : ℕ
call_reach = 2 ^ 117

-- as far as any instance stands, and farther: a chain has 64 calls
abbrev pub chain_reach : ℕ
chain_reach = 2 ^ 124

-- A coordinate that paint may have.
pub record IsPaintable (z : ℤ) : Type 0 where
  pub low : neg_ℤ PAINT_EDGE ≤ℤ z
  pub high : z ≤ℤ PAINT_EDGE

-- The box lies within the range of paint.
pub record LiesInRange (box : Rect) : Type 0 where
  pub xlo : IsPaintable box.xlo
  pub ylo : IsPaintable box.ylo
  pub xhi : IsPaintable box.xhi
  pub yhi : IsPaintable box.yhi
