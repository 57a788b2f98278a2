-- The pieces that the tiles of a cell's parts make, plane by plane.
use Rattle.std.specs.Prelude.{◌≡◌, ◌≢◌, ◌≤◌, ◌<◌, ℕ, zero, suc, List, [], ◌++◌, length, map, Some, slice_get, All}
use Rattle.finite_sets.specs.Lists.{In}
use Rattle.geo_core.specs.declared.squares.Rect.{Rect}
use Rattle.geo_core.specs.declared.squares.Square.{Square}
use Rattle.geo_core.specs.Covering.{Covers}
use Rattle.geo_core.specs.Strips.{IsStrips}
use Rattle.tech_model.specs.declared.raw.RawTech.{RawTech}
use Rattle.meeting_laws.specs.Offences.declared.plane_stacks.PlaneStack.{PlaneStack}
use Rattle.meeting_laws.specs.Offences.declared.stacks.TypedStack.{TypedStack}
use Rattle.meeting_laws.specs.Offences.Offences.{HaveTypes, SetLayout, OffendsOn}
use Rattle.meeting_laws.specs.Offences.SetTiles.{tile_parts}
use Rattle.meeting_laws.specs.Offences.TypedStacks.{AreTypedStacks, StandForTiles}
use Rattle.cell_library.specs.declared.part_tiles.PartTile.{PartTile}
use Rattle.hier_merge.specs.declared.meetings.Pieces.{Pieces}
use Rattle.hier_merge.specs.steps.Visits.{AreOfParts, tiles_on}

-- the parts that the tiles of a plane make
abbrev pub parts_of_plane : RawTech → List PartTile → ℕ → ℕ → List SetLayout
parts_of_plane raw tiles count plane = tile_parts (tiles_on raw plane tiles) plane count

-- The tiles are of so many parts, and what they make of these on each plane has types.
pub record HaveTypedParts (raw : RawTech) (tiles : List PartTile) : Type 0 where
  pub count : ℕ
  pub of_parts : AreOfParts count tiles
  pub types : (plane : ℕ) → HaveTypes raw (tile_parts (tiles_on raw plane tiles) plane count)

-- the piece of a plane
abbrev pub plane_stack : ℕ → TypedStack → PlaneStack
plane_stack plane stack = record { plane = plane; stack = stack }

-- The number, from one on and below another, is that of a tile that lies on the plane and covers the piece.
pub record IsTileOfPiece (tiles : List PartTile) (start next plane : ℕ) (piece : TypedStack) (number : ℕ) : Type 0 where
  pub from : start ≤ number
  pub below : number < next
  pub tile : PartTile
  pub there : slice_get tiles number ≡ Some tile
  pub on : tile.plane ≡ plane
  pub covers : (square : Square) → Covers piece.area square → Covers tile.area square

-- The piece has members: the numbers of all such tiles, which cover it where they cover a square of it.
pub record HasTiles (tiles : List PartTile) (start next plane : ℕ) (piece : TypedStack) : Type 0 where
  pub some : piece.members ≢ []
  pub each : (number : ℕ) → In number piece.members → IsTileOfPiece tiles start next plane piece number
  pub all : (number : ℕ) (tile : PartTile) (square : Square) → start ≤ number → number < next → slice_get tiles number ≡ Some tile → tile.plane ≡ plane
      → Covers piece.area square → Covers tile.area square → In number piece.members

-- Where what the tiles make of each part has types, these are the pieces that the tiles of the plane make; and of whatever parts they are the
-- pieces, the strips are those of what offends of these.
pub record HasPlanePieces (raw : RawTech) (tiles : List PartTile) (plane : ℕ) (found : List TypedStack) (strips : List Rect) : Type 0 where
  pub stand : StandForTiles raw plane (tiles_on raw plane tiles) found
  pub members : All (HasTiles tiles 0 (length tiles) plane) found
  pub strips_are : (parts : List SetLayout) → AreTypedStacks raw parts plane found → IsStrips (OffendsOn raw parts plane) strips

-- The pieces of one more plane are added.
pub record AddsPlane (raw : RawTech) (tiles : List PartTile) (plane : ℕ) (old new : Pieces) : Type 0 where
  pub found : List TypedStack
  pub strips : List Rect
  pub has : HasPlanePieces raw tiles plane found strips
  pub stacks : new.stacks.items ≡ old.stacks.items ++ map (plane_stack plane) found
  pub offending : new.offending.items ≡ old.offending.items ++ map (λ area. (plane, area)) strips

-- These are the pieces of so many planes from this one on, with what offends.
abbrev pub ArePiecesFrom : RawTech → List PartTile → ℕ → ℕ → List PlaneStack → List (ℕ × Rect) → Type 0
ArePiecesFrom raw tiles plane zero stacks offending = (stacks ≡ []) × (offending ≡ [])
ArePiecesFrom raw tiles plane (suc count) stacks offending =
    (found : List TypedStack) × (strips : List Rect) × (others : List PlaneStack) × (more : List (ℕ × Rect))
    × HasPlanePieces raw tiles plane found strips
    × (stacks ≡ map (plane_stack plane) found ++ others)
    × (offending ≡ map (λ area. (plane, area)) strips ++ more)
    × ArePiecesFrom raw tiles (suc plane) count others more

-- the same of the first planes
abbrev pub ArePlanePieces : RawTech → List PartTile → ℕ → Pieces → Type 0
ArePlanePieces raw tiles count pieces = ArePiecesFrom raw tiles 0 count pieces.stacks.items pieces.offending.items
