-- Places in a list of tiles, such that no tile before one shares a square with a tile behind it, and the pieces that tiles make.
use Rattle.std.specs.Prelude.{◌≡◌, ◌≤◌, ◌-◌, ◌==◌, ℕ, suc, if◌then◌else◌, List, [], ◌∷◌, ◌++◌, length, map, slice_index, take, drop, All, AllPairs}
use Rattle.finite_sets.specs.Lists.{In}
use Rattle.geo_core.specs.declared.squares.Square.{Square}
use Rattle.geo_core.specs.Areas.{AreDisjoint}
use Rattle.geo_core.specs.Covering.{Covers}
use Rattle.tech_model.specs.declared.raw.RawTech.{RawTech}
use Rattle.meeting_laws.specs.Offences.declared.set_tiles.SetTile.{SetTile}
use Rattle.meeting_laws.specs.Offences.declared.stacks.TypedStack.{TypedStack}
use Rattle.meeting_laws.specs.Offences.TypedStacks.{StandForTiles}
use Rattle.cell_library.specs.declared.part_tiles.PartTile.{PartTile}
use Rattle.hier_merge.specs.declared.plane_tiles.NumberedTile.{NumberedTile}
use Rattle.hier_merge.specs.steps.PlanePieces.{HasTiles}
use Rattle.hier_merge.specs.steps.Visits.{set_tile, tiles_on}

-- No tile before the place shares a square with one behind it.
pub record IsSeam (tiles : List PartTile) (place : ℕ) : Type 0 where
  pub within : place ≤ length tiles
  pub apart : (before after : PartTile) → In before (take place tiles) → In after (drop place tiles) → AreDisjoint before.area after.area

-- These places are seams, none before an earlier one.
pub record AreSeams (tiles : List PartTile) (places : List ℕ) : Type 0 where
  pub each : (place : ℕ) → In place places → IsSeam tiles place
  pub rising : AllPairs ◌≤◌ places

-- One of the tiles covers the square.
abbrev pub IsOnTile : List SetTile → Square → Type 0
IsOnTile tiles square = (tile : SetTile) × (In tile tiles × Covers tile.area square)

-- Where what the tiles make of each part has types, the pieces are those of these parts; and each square of a piece lies on a tile.
pub record AreTilePieces (raw : RawTech) (plane : ℕ) (tiles : List SetTile) (found : List TypedStack) : Type 0 where
  pub stand : StandForTiles raw plane tiles found
  pub lie : (piece : TypedStack) → In piece found → (square : Square) → Covers piece.area square → IsOnTile tiles square

-- those of the tiles that lie on the plane, where the first has this number and each has the next one
abbrev pub numbered_on : RawTech → ℕ → ℕ → List PartTile → List NumberedTile
numbered_on raw plane number [] = []
numbered_on raw plane number (tile ∷ tiles) =
    if tile.plane == plane then record { number = number; tile = set_tile raw tile } ∷ numbered_on raw plane (suc number) tiles
    else numbered_on raw plane (suc number) tiles

-- the piece with the numbers at the places that it had as members
abbrev pub renumbered : List ℕ → TypedStack → TypedStack
renumbered numbers piece = record {
  area = piece.area;
  flat = piece.flat;
  kinds = piece.kinds;
  owner = piece.owner;
  members = map (slice_index numbers) piece.members;
}

-- The pieces are added that the tiles of a plane from one number on and below another make.
pub record AddsPieces (raw : RawTech) (tiles : List PartTile) (start next plane : ℕ) (old new : List TypedStack) : Type 0 where
  pub found : List TypedStack
  pub added : new ≡ old ++ found
  pub are : AreTilePieces raw plane (tiles_on raw plane (take (next - start) (drop start tiles))) found
  pub have : All (HasTiles tiles start next plane) found
