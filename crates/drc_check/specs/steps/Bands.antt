-- Bands of rows that a hull is cut into.
use Rattle.std.specs.Prelude.{◌<ℤ◌, ℤ, List}
use Rattle.finite_sets.specs.Lists.{In}
use Rattle.geo_core.specs.declared.squares.Square.{Square}
use Rattle.geo_core.specs.declared.squares.Rect.{Rect}
use Rattle.geo_core.specs.Areas.{IsNear, LiesWithin}
use Rattle.geo_core.specs.Covering.{Covers}
use Rattle.geo_core.specs.Strips.{IsInUnion}

-- The bands go nowhere past the hull, and together have all of its squares below this row.
pub record AreBandsBelow (hull : Rect) (row : ℤ) (bands : List Rect) : Type 0 where
  pub near : (band : Rect) → In band bands → IsNear band
  pub within : (band : Rect) → In band bands → LiesWithin band hull
  pub whole : (square : Square) → Covers hull square → square.y <ℤ row → IsInUnion bands square

-- They have all of its squares.
abbrev pub AreBandsOf : Rect → List Rect → Type 0
AreBandsOf hull bands = AreBandsBelow hull hull.yhi bands
