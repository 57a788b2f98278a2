-- Which rectangles of a list have squares in an area.
use Rattle.std.specs.Prelude.{◌≡◌, ◌<◌, ◌↔◌, ℕ, List, slice_get, Some, AllPairs}
use Rattle.geo_core.specs.FiniteSets.Lists.{In}
use Rattle.geo_core.specs.declared.squares.Rect.{Rect}
use Rattle.geo_core.specs.Areas.{common_rect}
use Rattle.geo_core.specs.Covering.{IsProper}

-- The rectangle at this position of the list has a square in the area.
pub record MeetsAt (rects : List Rect) (position : ℕ) (area : Rect) : Type 0 where
  pub rect : Rect
  pub there : slice_get rects position ≡ Some rect
  pub meets : IsProper (common_rect rect area)

-- These are the positions of the rectangles that have squares in the area, in order, each once.
pub record AreMeeting (rects : List Rect) (area : Rect) (positions : List ℕ) : Type 0 where
  pub exact : (position : ℕ) → In position positions ↔ MeetsAt rects position area
  pub ordered : AllPairs ◌<◌ positions

-- The rectangle is one of the list, and has a square in the area.
pub record IsMeeting (rects : List Rect) (area : Rect) (rect : Rect) : Type 0 where
  pub there : In rect rects
  pub meets : IsProper (common_rect rect area)

-- no rectangle of the list has a square in the area
abbrev pub MissesAll : List Rect → Rect → Type 0
MissesAll rects area = (rect : Rect) → In rect rects → IsProper (common_rect rect area) → ⊥
