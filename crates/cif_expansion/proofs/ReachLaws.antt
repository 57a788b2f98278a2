-- How far transforms move: a composed one no farther than both together.
use Rattle.cif_expansion.proofs.Common.{ℕ, ◌+◌, ◌≤◌, ℤ, refl, subst, arith, ints, Orient, Transform, composed, identity, across, upward, point_x_at}
use Rattle.cif_expansion.proofs.Common.{point_y_at, IsAtMost, MovesWithin}
use Rattle.geo_core.specs.declared.orients.Orient.TheVariants.{R0}

-- and what is at most this is at most more
pub at_most_weaker : (m n : ℕ) (z : ℤ) → m ≤ n → IsAtMost m z → IsAtMost n z
at_most_weaker m n z less is = record { low = omega (arith, ints); high = omega (arith, ints) }

pub within_weaker : (m n : ℕ) (t : Transform) → m ≤ n → MovesWithin m t → MovesWithin n t
within_weaker m n t less is = record { dx = at_most_weaker m n t.dx less is.dx; dy = at_most_weaker m n t.dy less is.dy }

across_within : (o : Orient) (dx x y : ℤ) (m n : ℕ) → IsAtMost m x → IsAtMost m y → IsAtMost n dx → IsAtMost (m + n) (across o dx x y)
across_within R0 dx x y m n p q r = record { low = omega (arith, ints); high = omega (arith, ints) }
across_within _ dx x y m n p q r = record { low = omega (arith, ints); high = omega (arith, ints) }

upward_within : (o : Orient) (dy x y : ℤ) (m n : ℕ) → IsAtMost m x → IsAtMost m y → IsAtMost n dy → IsAtMost (m + n) (upward o dy x y)
upward_within R0 dy x y m n p q r = record { low = omega (arith, ints); high = omega (arith, ints) }
upward_within _ dy x y m n p q r = record { low = omega (arith, ints); high = omega (arith, ints) }

-- of two transforms, one after the other, the whole moves no farther than both together
pub composed-within : (inner outer : Transform) (m n : ℕ) → MovesWithin m inner → MovesWithin n outer → MovesWithin (m + n) (composed inner outer)
composed-within inner outer m n p q = record {
  dx = subst (IsAtMost (m + n)) (point_x_at outer outer.orient (across outer.orient outer.dx inner.dx inner.dy) inner.dx inner.dy refl refl)
      (across_within outer.orient outer.dx inner.dx inner.dy m n p.dx p.dy q.dx);
  dy = subst (IsAtMost (m + n)) (point_y_at outer outer.orient (upward outer.orient outer.dy inner.dx inner.dy) inner.dx inner.dy refl refl)
      (upward_within outer.orient outer.dy inner.dx inner.dy m n p.dx p.dy q.dy);
}

-- the identity does not move
pub identity-within : MovesWithin 0 identity
identity-within = record {
  dx = record { low = omega (arith, ints); high = omega (arith, ints) };
  dy = record { low = omega (arith, ints); high = omega (arith, ints) };
}
