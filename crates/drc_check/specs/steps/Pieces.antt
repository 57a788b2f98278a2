-- Pieces of planes on whose squares the flat type is one that some rule lists.
use Rattle.std.specs.Prelude.{◌≡◌, ◌≢◌, ◌<◌, ◌==◌, ◌&&◌, ℕ, Bool, false, if◌then◌else◌, bit_or, List, [], ◌∷◌, ◌++◌, length, All, slice_index_or}
use Rattle.std.specs.Prelude.{Option, Some, None, filter}
use Rattle.finite_sets.specs.Lists.{In}
use Rattle.geo_core.specs.declared.squares.Square.{Square}
use Rattle.geo_core.specs.declared.squares.Rect.{Rect}
use Rattle.geo_core.specs.Covering.{Covers, IsProper, is_covered}
use Rattle.rect_overlays.specs.declared.stacks.Stack.{Stack}
use Rattle.tech_model.specs.declared.raw.PartSet.{PartSet}
use Rattle.tech_model.specs.declared.raw.RawTech.{RawTech}
use Rattle.tech_model.specs.declared.raw.TypeId.{TypeId}
use Rattle.tech_model.specs.Types.{joined, parts_of, type_number}
use Rattle.hierarchy_model.specs.Offences.LayoutModel.Places.{Place}
use Rattle.hierarchy_model.specs.Offences.Offences.{SetLayout, joined_at}
use Rattle.hierarchy_model.specs.Offences.TypedStacks.{on_plane}
use Rattle.cell_library.specs.declared.part_tiles.PartTile.{PartTile}
use Rattle.drc_rules.specs.declared.rules.Rule.{Rule}
use Rattle.drc_check.specs.declared.pieces.ListedPiece.{ListedPiece}
use Rattle.drc_check.specs.steps.Listed.{IsListedType, IsMarkedType}

-- ---- what tiles make

-- the set that a tile has at a place
abbrev pub set_of_tile : RawTech → PartTile → Place → ℕ
set_of_tile raw tile place = if place.plane == tile.plane && is_covered tile.area place.square then parts_of raw tile.kind.0 else 0

-- what all tiles make together: at each place the union of their sets there
abbrev pub set_of_all : RawTech → List PartTile → SetLayout
set_of_all raw [] place = 0
set_of_all raw (tile ∷ tiles) place = bit_or (set_of_tile raw tile place) (set_of_all raw tiles place)

-- some tile covers the square
abbrev pub IsOnPartTile : List PartTile → Square → Type 0
IsOnPartTile tiles square = (tile : PartTile) × (In tile tiles × Covers tile.area square)

-- ---- pieces

-- Some piece of the plane has the type and covers the square.
pub record HasPieceAt (pieces : List ListedPiece) (place : Place) (kind : TypeId) : Type 0 where
  pub piece : ListedPiece
  pub among : In piece pieces
  pub plane : piece.plane ≡ place.plane
  pub is : piece.kind ≡ kind
  pub covers : Covers piece.area place.square

-- Each piece has a square, and its type is that of these sets at each square of it. Where they have a type that is wanted there, a piece
-- has it.
pub record AreListedPieces (raw : RawTech) (sets : SetLayout) (Wanted : Place → TypeId → Type 0) (pieces : List ListedPiece) : Type 0 where
  pub proper : (piece : ListedPiece) → In piece pieces → IsProper piece.area
  pub sound : (piece : ListedPiece) → In piece pieces → (square : Square) → Covers piece.area square
      → joined_at raw sets (on_plane piece.plane square) ≡ Some piece.kind.0
  pub whole : (place : Place) (kind : TypeId) → Wanted place kind → joined_at raw sets place ≡ Some kind.0 → HasPieceAt pieces place kind

-- Pieces of what the tiles make are added behind others, and each square of them lies on a tile.
pub record AddsMadePieces (raw : RawTech) (tiles : List PartTile) (Wanted : Place → TypeId → Type 0) (old new : List ListedPiece) : Type 0 where
  pub found : List ListedPiece
  pub is : new ≡ old ++ found
  pub are : AreListedPieces raw (set_of_all raw tiles) Wanted found
  pub lie : (piece : ListedPiece) → In piece found → (square : Square) → Covers piece.area square → IsOnPartTile tiles square

-- the place is on the plane, and the type is marked and not space
abbrev pub IsMarkedTypeOn : List Bool → ℕ → Place → TypeId → Type 0
IsMarkedTypeOn marks plane place kind = (place.plane ≡ plane) × IsMarkedType marks kind.0 × (kind.0 ≢ 0)

-- the pieces of one plane are added whose types are marked
abbrev pub AddsOfPlane : RawTech → List Bool → List PartTile → ℕ → List ListedPiece → List ListedPiece → Type 0
AddsOfPlane raw marks tiles plane old new = AddsMadePieces raw tiles (IsMarkedTypeOn marks plane) old new

-- some rule lists the type, as one of the place's plane
abbrev pub IsListedAt : List Rule → Place → TypeId → Type 0
IsListedAt rules place kind = IsListedType rules place.plane kind

-- the pieces of all planes are added whose types rules list
abbrev pub AddsListed : RawTech → List Rule → List PartTile → List ListedPiece → List ListedPiece → Type 0
AddsListed raw rules tiles old new = AddsMadePieces raw tiles (IsListedAt rules) old new

-- ---- how they are found

-- whether the tile lies on the plane
abbrev pub is_on_plane : ℕ → PartTile → Bool
is_on_plane plane tile = tile.plane == plane

-- the tiles of the plane
abbrev pub tiles_of_plane : ℕ → List PartTile → List PartTile
tiles_of_plane plane tiles = filter (is_on_plane plane) tiles

-- the squares of a tile
abbrev pub tile_area : PartTile → Rect
tile_area tile = tile.area

-- the set of a tile's type
abbrev pub set_in : RawTech → PartTile → PartSet
set_in raw tile = record { 0 = parts_of raw tile.kind.0 }

-- the set at a place of a list, and none past its end
abbrev pub part_set_at : List PartSet → ℕ → ℕ
part_set_at sets place = (slice_index_or sets place (record { 0 = 0 })).0

-- the union of the sets at these places of a list
abbrev pub member_union : List PartSet → List ℕ → ℕ
member_union sets [] = 0
member_union sets (member ∷ members) = bit_or (part_set_at sets member) (member_union sets members)

-- the members of the stack are places of the list
abbrev pub HasMembersIn : List PartSet → Stack → Type 0
HasMembersIn sets stack = All (λ member. member < length sets) stack.members.items

-- the piece of this type, if the type is marked
abbrev pub marked_piece : List Bool → ℕ → Rect → Option ℕ → Option ListedPiece
marked_piece marks plane area None = None
marked_piece marks plane area (Some kind) =
    if slice_index_or marks kind false then Some (record { plane = plane; kind = type_number kind; area = area }) else None

-- the piece that a stack is, if the type of what its members have together is marked
abbrev pub stack_piece : RawTech → List Bool → ℕ → List PartSet → Stack → Option ListedPiece
stack_piece raw marks plane sets stack = marked_piece marks plane stack.area (joined raw plane (member_union sets stack.members.items))
