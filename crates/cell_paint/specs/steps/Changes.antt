-- What becomes of the pieces of a plane where columns change.
use Rattle.std.specs.Prelude.{◌≡◌, ◌==◌, not, ℕ, Bool, List, map, filter, Option, Some, None, slice_index_or}
use Rattle.geo_core.specs.declared.squares.Square.{Square}
use Rattle.geo_core.specs.declared.squares.Piece.{Piece}
use Rattle.geo_core.specs.Areas.{corner_of}
use Rattle.tech_model.specs.declared.raw.TypeId.{TypeId}
use Rattle.tech_model.specs.Columns.{type_on}
use Rattle.layout_model.specs.Layouts.{Layout}
use Rattle.cell_paint.specs.Painting.{column_at}

-- the type that a change leaves on a plane of a square
abbrev pub kind_after : (List TypeId → List TypeId) → Layout → ℕ → Square → ℕ
kind_after change layout plane square = type_on (change (column_at layout square)) plane

-- where the list has a type for the one that a square has now, it is what the square comes to have
abbrev pub AreKnown : (Square → ℕ) → (Square → ℕ) → List (Option ℕ) → Type 0
AreKnown old after known = (square : Square) (kind : ℕ) → slice_index_or known (old square) None ≡ Some kind → after square ≡ kind

-- the piece with what its lower left square comes to have
abbrev pub changed_piece : (Square → ℕ) → Piece → Piece
changed_piece after piece = record { area = piece.area; value = after (corner_of piece.area) }

-- its lower left square comes to have another value
abbrev pub is_changed : (Square → ℕ) → Piece → Bool
is_changed after piece = not (after (corner_of piece.area) == piece.value)

-- the pieces that change, with what they come to have
abbrev pub changed_pieces : (Square → ℕ) → List Piece → List Piece
changed_pieces after pieces = map (changed_piece after) (filter (is_changed after) pieces)
