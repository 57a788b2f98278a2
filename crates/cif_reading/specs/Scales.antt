-- Numbers multiplied by a scale.
use Rattle.std.specs.Prelude.{◌≤◌, ℤ, pos, ◌*ℤ◌, ◌≤ℤ◌, unsigned_abs, Bool}
use Rattle.std.specs.Int.{int_div_euclid, int_rem_euclid}
use Rattle.std.specs.Ordering.{int_eq}
use Rattle.cif_reading.specs.declared.limits.TheConstants.{MOST_FACTOR}
use Rattle.cif_reading.specs.declared.scales.Scale.{Scale}

-- the number is whole when it is scaled
abbrev pub is_whole : Scale → ℤ → Bool
is_whole scale z = int_eq (int_rem_euclid (z *ℤ scale.up) scale.down) (pos 0)

-- what it is then
abbrev pub scaled : Scale → ℤ → ℤ
scaled scale z = int_div_euclid (z *ℤ scale.up) scale.down

-- Both numbers of a scale are at least 1, and at most the greatest.
pub record IsScale (scale : Scale) : Type 0 where
  pub up : unsigned_abs scale.up ≤ MOST_FACTOR
  pub down : pos 1 ≤ℤ scale.down
  pub down_limit : scale.down ≤ℤ pos MOST_FACTOR
