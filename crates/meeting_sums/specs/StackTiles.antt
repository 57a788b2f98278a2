-- Pieces of planes as tiles of the flat layout, and groups of them.
use Rattle.std.specs.Prelude.{◌≡◌, ℕ, List, Some, map, slice_get, unwrap_or}
use Rattle.geo_core.specs.Covering.{Covers}
use Rattle.tech_model.specs.Types.{type_number}
use Rattle.offences.specs.LayoutModel.Places.{Place}
use Rattle.offences.specs.LayoutModel.declared.region_tiles.RegionTile.{RegionTile}
use Rattle.offences.specs.declared.plane_stacks.PlaneStack.{PlaneStack}

-- the piece as a tile of its plane, with the flat type: space where that is undefined
abbrev pub tile_of : PlaneStack → RegionTile
tile_of piece = record { plane = piece.plane; area = piece.stack.area; kind = unwrap_or piece.stack.flat (type_number 0); region = 0 }

-- the pieces as tiles, each in its place
abbrev pub tiles_of : List PlaneStack → List RegionTile
tiles_of stacks = map tile_of stacks

-- The place lies in a piece of the group. The groups of pieces are given in the order of these.
pub record IsInGroup (stacks : List PlaneStack) (groups : List ℕ) (group : ℕ) (place : Place) : Type 0 where
  pub index : ℕ
  pub piece : PlaneStack
  pub there : slice_get stacks index ≡ Some piece
  pub plane : place.plane ≡ piece.plane
  pub covers : Covers piece.stack.area place.square
  pub of_group : slice_get groups index ≡ Some group
