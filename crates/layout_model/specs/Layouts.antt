-- Layouts: which tile type stands at each place. Type 0 is space.
use Rattle.std.specs.Prelude.{◌≢◌, ◌==◌, ℕ, if◌then◌else◌, List, [], ◌∷◌}
use Rattle.geo_core.specs.declared.squares.Square.{Square}
use Rattle.geo_core.specs.declared.squares.Piece.{Piece}
use Rattle.geo_core.specs.Covering.{is_covered}
use Rattle.layout_model.specs.Places.{Place}

-- a layout: the tile type at each place
abbrev pub Layout : Type 0
Layout = Place → ℕ

-- Something other than space stands at the place.
abbrev pub IsMaterial : Layout → Place → Type 0
IsMaterial layout place = layout place ≢ 0

-- What stands at a square when each piece in order has put its value on the squares that it covers, in the place of what was there.
abbrev pub painted_over : ℕ → List Piece → Square → ℕ
painted_over under [] square = under
painted_over under (piece ∷ pieces) square =
    painted_over (if is_covered piece.area square then piece.value else under) pieces square

-- The same on an empty plane.
abbrev pub painted : List Piece → Square → ℕ
painted pieces square = painted_over 0 pieces square

-- The layout whose only material is on this plane.
abbrev pub on_plane : ℕ → (Square → ℕ) → Layout
on_plane plane kinds place = if place.plane == plane then kinds place.square else 0
