-- The parts of a technology in order, and the squares of a cell that hold one.
use Rattle.std.specs.Prelude.{◌≡◌, ◌==◌, ◌-◌, ◌^◌, true, false, ℕ, Bool, List, [], ◌∷◌, ◌++◌, map, filter}
use Rattle.geo_core.specs.declared.squares.Piece.{Piece}
use Rattle.geo_core.specs.declared.squares.Rect.{Rect}
use Rattle.geo_core.specs.declared.squares.Square.{Square}
use Rattle.tech_model.specs.declared.raw.RawTech.{RawTech}
use Rattle.tech_model.specs.declared.raw.TypeId.{TypeId}
use Rattle.tech_model.specs.Columns.{mark_of}
use Rattle.tech_model.specs.Rules.{types_of}
use Rattle.tech_model.specs.Types.{images_of, is_subset, layer_of, parts_of}
use Rattle.cell_library.specs.CellPaint.Painting.{kinds_on}
use Rattle.cell_library.specs.LayoutModel.Layouts.{Layout}

-- the type is an atom: its set is the bit of itself
abbrev pub is_atom : RawTech → ℕ → Bool
is_atom raw t = parts_of raw t == 2 ^ (t - 1)

-- the type is the second of the images
abbrev pub is_second : List TypeId → ℕ → Bool
is_second [] t = false
is_second (first ∷ []) t = false
is_second (first ∷ second ∷ images) t = second.0 == t

-- The type is the second image of a contact. Second images are numbered in the order of the lines of their contacts.
abbrev pub is_second_image : RawTech → ℕ → Bool
is_second_image raw t = is_second (images_of raw (layer_of raw t)) t

-- the mark of the contact that the type is an image of
abbrev pub own_mark : RawTech → ℕ → ℕ
own_mark raw t = mark_of raw (images_of raw (layer_of raw t))

-- the sets of the atoms, in the order of their types
abbrev pub atom_sets : RawTech → List ℕ
atom_sets raw = map (parts_of raw) (filter (is_atom raw) (types_of raw))

-- the marks of the contacts, in the order of their lines
abbrev pub mark_sets : RawTech → List ℕ
mark_sets raw = map (own_mark raw) (filter (is_second_image raw) (types_of raw))

-- The parts in order, each a set with one bit: the atoms, and then the marks of contacts.
abbrev pub part_sets : RawTech → List ℕ
part_sets raw = atom_sets raw ++ mark_sets raw

-- On some plane the set of the type that stands at the square has the part.
abbrev pub HoldsPart : RawTech → Layout → ℕ → Square → Type 0
HoldsPart raw own part square = (plane : ℕ) × (is_subset part (parts_of raw (kinds_on own plane square)) ≡ true)

-- the set of the tile's type has the part
abbrev pub has_part : RawTech → ℕ → ℕ × Piece → Bool
has_part raw part tile = is_subset part (parts_of raw tile.1.value)

-- the areas of the tiles whose types have the part
abbrev pub areas_with : RawTech → ℕ → List (ℕ × Piece) → List Rect
areas_with raw part tiles = map (λ tile. tile.1.area) (filter (has_part raw part) tiles)
