-- Where boxes are so near each other that what lies in them may touch.
use Rattle.std.specs.Prelude.{◌≤ℤ◌, List, map}
use Rattle.geo_core.specs.declared.squares.Square.{Square}
use Rattle.geo_core.specs.declared.squares.Rect.{Rect}
use Rattle.geo_core.specs.Areas.{widened, IsNear}
use Rattle.geo_core.specs.Covering.{IsInTwo}

-- A box: none of its sides lies past the one across, but they may meet, as those of a point do.
pub record IsNearBox (area : Rect) : Type 0 where
  pub wide : area.xlo ≤ℤ area.xhi
  pub high : area.ylo ≤ℤ area.yhi
  pub near : IsNear area

-- The square lies in two of the boxes, each grown by one on every side. Boxes at different indices are two boxes, even if they are equal.
abbrev pub IsShared : List Rect → Square → Type 0
IsShared boxes square = IsInTwo (map widened boxes) square
