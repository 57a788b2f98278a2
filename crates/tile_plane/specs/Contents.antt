-- What a plane of tiles is seen as: its tiles, and those that it has once the change that is made ready is committed.
use Rattle.std.specs.Prelude.{◌≢◌, ℕ, List, Option, Some, None, refl, pos, neg_ℤ, ◌+ℤ◌, ◌-ℤ◌}
use Rattle.std.specs.Coded.{Coded, code_by, coded×, coded_option, coded_ℕ}
use Rattle.std.specs.FinMap as fin_map
use Rattle.geo_core.specs.declared.limits.TheConstants.{PLANE_EDGE}
use Rattle.geo_core.specs.declared.squares.Square.{Square}
use Rattle.geo_core.specs.declared.squares.Rect.{Rect}
use Rattle.geo_core.specs.declared.squares.Piece.{Piece}
use Rattle.geo_core.specs.Covering.{Covers}
use Rattle.geo_core.specs.Planes.{AreSet}
use Rattle.tile_plane.specs.contracts.slots.Slot.{the_row as slot_row}
use Rattle.tile_plane.specs.Tiles.{Tiles, IsPartition, HasStitches, value_at}
use Rattle.tile_plane.specs.Tall.{AreStrips}

-- the tiles as they are, and as they will be where a change is made ready
pub record Contents : Type 0 where
  pub tiles : Tiles
  pub next : Option Tiles

abbrev tiles_code : Coded Tiles
tiles_code = fin_map.code coded_ℕ slot_row.coded

-- contents are stored as the pair of their fields
abbrev pub contents_code : Coded Contents
contents_code =
    code_by (Tiles × Option Tiles) (coded× tiles_code (coded_option tiles_code)) (λ c. (c.tiles, c.next)) (λ p. record { tiles = p.0; next = p.1 }) (λ _. refl)

-- a plane that has no tiles, on which all is space
abbrev pub no_contents : Contents
no_contents = record { tiles = fin_map.empty; next = None }

-- The value at each square.
abbrev pub value_in : Contents → Square → ℕ
value_in contents square = value_at contents.tiles square

-- The change that is made ready sets the pieces.
abbrev pub IsChange : Tiles → Option Tiles → List Piece → Type 0
IsChange tiles None pieces = ⊥
IsChange tiles (Some next) pieces = AreSet (value_at tiles) (value_at next) pieces

abbrev pub IsReady : Contents → List Piece → Type 0
IsReady contents pieces = IsChange contents.tiles contents.next pieces

-- the squares that areas of a plane may have
abbrev pub inner_range : Rect
inner_range = record { xlo = neg_ℤ PLANE_EDGE +ℤ pos 1; ylo = neg_ℤ PLANE_EDGE +ℤ pos 1; xhi = PLANE_EDGE -ℤ pos 1; yhi = PLANE_EDGE -ℤ pos 1 }

-- The tiles are those of a plane: the strips of each value, rightly stitched, with nothing at the edges.
pub record IsPlane (tiles : Tiles) : Type 0 where
  pub partition : IsPartition tiles
  pub stitches : HasStitches tiles
  pub strips : AreStrips tiles
  pub space : (square : Square) → value_at tiles square ≢ 0 → Covers inner_range square
