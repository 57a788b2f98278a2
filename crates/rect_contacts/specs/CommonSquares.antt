-- Rectangles of two lists that have a square in common.
use Rattle.std.specs.Prelude.{ℕ, ◌<◌, List, length}
use Rattle.geo_core.specs.declared.squares.Square.{Square}
use Rattle.geo_core.specs.declared.squares.Rect.{Rect}
use Rattle.geo_core.specs.Covering.{Covers}
use Rattle.rect_contacts.specs.Rects.{rect_at}

-- The rectangles at the two places, one of each list, have a square in common.
pub record IsOverlap (first second : List Rect) (pair : ℕ × ℕ) : Type 0 where
  pub in_first : pair.0 < length first
  pub in_second : pair.1 < length second
  pub square : Square
  pub one : Covers (rect_at first pair.0) square
  pub other : Covers (rect_at second pair.1) square
