-- How far from the origin coordinates and displacements may lie, so that all that is computed from them fits 64 bits.
use Rattle.std.specs.Prelude.{ℤ, neg_ℤ, ◌<ℤ◌}
use Rattle.geo_core.specs.declared.limits.TheConstants.{REACH}
use Rattle.geo_core.specs.declared.squares.Square.{Square}
use Rattle.geo_core.specs.declared.squares.Rect.{Rect}
use Rattle.geo_core.specs.declared.transforms.Transform.{Transform}

-- less than the reach in absolute value
abbrev pub IsInReach : ℤ → Type 0
IsInReach z = (neg_ℤ REACH <ℤ z) × (z <ℤ REACH)

pub record MovesInReach (transform : Transform) : Type 0 where
  pub dx : IsInReach transform.dx
  pub dy : IsInReach transform.dy

pub record LiesInReach (square : Square) : Type 0 where
  pub x : IsInReach square.x
  pub y : IsInReach square.y

pub record SpansInReach (area : Rect) : Type 0 where
  pub xlo : IsInReach area.xlo
  pub ylo : IsInReach area.ylo
  pub xhi : IsInReach area.xhi
  pub yhi : IsInReach area.yhi
