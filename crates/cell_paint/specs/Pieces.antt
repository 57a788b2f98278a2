-- Pieces of several planes, each with the number of its plane: what is taken out of an area, and what is put back into one.
use Rattle.std.specs.Prelude.{◌==◌, ◌&&◌, ◌<◌, ◌≤◌, ℕ, if◌then◌else◌, List, [], ◌∷◌, map, filter, All, AllPairs}
use Rattle.geo_core.specs.declared.squares.Rect.{Rect}
use Rattle.geo_core.specs.declared.squares.Piece.{Piece}
use Rattle.geo_core.specs.Areas.{AreDisjoint, LiesWithin}
use Rattle.geo_core.specs.Covering.{is_covered, IsProper}
use Rattle.geo_core.specs.Planes.{AreTilesIn}
use Rattle.layout_model.specs.Layouts.{Layout}
use Rattle.cell_paint.specs.Painting.{kinds_on}

-- the type at a place by pieces of planes: that of the first that covers it, and space where there is none
abbrev pub kind_by : List (ℕ × Piece) → Layout
kind_by [] place = 0
kind_by (entry ∷ pieces) place =
    if (entry.0 == place.plane) && is_covered entry.1.area place.square then entry.1.value else kind_by pieces place

-- the layout in which these pieces stand in the area, and space between them
abbrev pub with_pieces : Rect → List (ℕ × Piece) → Layout → Layout
with_pieces area pieces layout place = if is_covered area place.square then kind_by pieces place else layout place

-- the pieces of one plane
abbrev pub pieces_on : List (ℕ × Piece) → ℕ → List Piece
pieces_on pieces plane = map (λ entry. entry.1) (filter (λ entry. entry.0 == plane) pieces)

-- The list has the tiles of each plane in the area, in their order, plane after plane.
pub record AreTakenOut (layout : Layout) (area : Rect) (taken : List (ℕ × Piece)) : Type 0 where
  pub tiles : (plane : ℕ) → AreTilesIn (kinds_on layout plane) area (pieces_on taken plane)
  pub in_order : AllPairs (λ a b. a.0 ≤ b.0) taken

-- The pieces can stand in the area: each is on one of so many planes, has a square, and lies within the area, and those of one plane
-- lie apart.
pub record CanStandIn (area : Rect) (count : ℕ) (pieces : List (ℕ × Piece)) : Type 0 where
  pub planes : All (λ entry. entry.0 < count) pieces
  pub proper : All (λ entry. IsProper entry.1.area) pieces
  pub within : All (λ entry. LiesWithin entry.1.area area) pieces
  pub apart : (plane : ℕ) → AllPairs (λ a b. AreDisjoint a.area b.area) (pieces_on pieces plane)
