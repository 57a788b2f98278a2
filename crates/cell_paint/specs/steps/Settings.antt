-- Pieces that are set on several planes: a list of them for each plane.
use Rattle.std.specs.Prelude.{◌≡◌, ◌≢◌, ◌<◌, ℕ, List, length, slice_index_or, All, AllPairs, Vec}
use Rattle.std.specs.declared.alloc.Global.{Global}
use Rattle.geo_core.specs.FiniteSets.Lists.{In}
use Rattle.geo_core.specs.declared.squares.Square.{Square}
use Rattle.geo_core.specs.declared.squares.Piece.{Piece}
use Rattle.geo_core.specs.Areas.{AreDisjoint, IsNear}
use Rattle.geo_core.specs.Covering.{Covers, IsProper}
use Rattle.geo_core.specs.Planes.{AreSet}
use Rattle.layout_model.specs.Layouts.{Layout}
use Rattle.cell_paint.specs.Painting.{kinds_on}
use Rattle.cell_paint.specs.Paints.{PlaneValue, number_on, no_plane, IsReadyFor}

-- The pieces can be set: each has a square and lies within the bounds of planes, and they lie apart.
pub record IsSettable (pieces : List Piece) : Type 0 where
  pub proper : All (λ piece. IsProper piece.area) pieces
  pub near : All (λ piece. IsNear piece.area) pieces
  pub apart : AllPairs (λ a b. AreDisjoint a.area b.area) pieces

-- the pieces for the plane of this number
abbrev pub pieces_for : List (Vec Piece Global) → ℕ → Vec Piece Global → List Piece
pieces_for changes plane other = (slice_index_or changes plane other).items

-- the pieces of each plane can be set
abbrev pub AreSettable : List (Vec Piece Global) → Type 0
AreSettable changes = All (λ pieces. IsSettable pieces.items) changes

-- Each plane is ready for its pieces.
abbrev pub AreAllReady : List PlaneValue → List (Vec Piece Global) → Type 0
AreAllReady planes changes =
    (plane : ℕ) (other : Vec Piece Global) → plane < length changes → IsReadyFor (slice_index_or planes plane no_plane) (pieces_for changes plane other)

-- Each plane has its pieces set.
pub record AreAllSet (old new : List PlaneValue) (changes : List (Vec Piece Global)) : Type 0 where
  pub so_many : length new ≡ length old
  pub each : (plane : ℕ) (other : Vec Piece Global) → plane < length changes
      → AreSet (number_on (slice_index_or old plane no_plane)) (number_on (slice_index_or new plane no_plane)) (pieces_for changes plane other)

-- The pieces can be set, and when they are, each square has what it comes to have: each piece has that of all its squares, and each
-- square that changes lies in one.
pub record AreChanges (old new : Square → ℕ) (pieces : List Piece) : Type 0 where
  pub settable : IsSettable pieces
  pub right : (piece : Piece) → In piece pieces → (square : Square) → Covers piece.area square → new square ≡ piece.value
  pub whole : (square : Square) → new square ≢ old square → (piece : Piece) × In piece pieces × Covers piece.area square

-- Each plane has its changes from the one layout to the other.
abbrev pub AreAllChanges : Layout → Layout → List (Vec Piece Global) → Type 0
AreAllChanges old new changes =
    (plane : ℕ) (other : Vec Piece Global) → plane < length changes → AreChanges (kinds_on old plane) (kinds_on new plane) (pieces_for changes plane other)
