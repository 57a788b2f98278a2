-- Tiles of all planes of a layout, each with the number of its region.
use Rattle.std.specs.Prelude.{◌≡◌, ◌≢◌, ◌↔◌, ℕ, ℤ, Bool, List, length, map, slice_get, slice_index, Some, All, AllPairs}
use Rattle.geo_core.specs.Areas.{AreDisjoint, IsNear}
use Rattle.geo_core.specs.Covering.{Covers, IsProper}
use Rattle.partition.specs.Marks.{IsNumbered}
use Rattle.layout_model.specs.Places.{Place}
use Rattle.layout_model.specs.Layouts.{Layout, IsMaterial}
use Rattle.layout_model.specs.Links.{AreOneNode}
use Rattle.layout_model.specs.Nodes.{AreMeasures}
use Rattle.layout_model.specs.Technologies.{Class}
use Rattle.layout_model.specs.declared.region_tiles.RegionTile.{RegionTile}

-- The place lies in the tile at this index.
pub record LiesIn (tiles : List RegionTile) (index : ℕ) (place : Place) : Type 0 where
  pub tile : RegionTile
  pub there : slice_get tiles index ≡ Some tile
  pub plane : place.plane ≡ tile.plane
  pub covers : Covers tile.area place.square

-- no place lies in both
abbrev pub LieApart : RegionTile → RegionTile → Type 0
LieApart a b = a.plane ≡ b.plane → AreDisjoint a.area b.area

-- The tiles are the material of the layout: each place with material lies in one of them, and has its type.
pub record AreLayoutTiles (layout : Layout) (tiles : List RegionTile) : Type 0 where
  pub proper : All (λ tile. IsProper tile.area) tiles
  pub near : All (λ tile. IsNear tile.area) tiles
  pub material : All (λ tile. tile.kind.0 ≢ 0) tiles
  pub apart : AllPairs LieApart tiles
  pub kinds : (index : ℕ) (place : Place) → (lies : LiesIn tiles index place) → layout place ≡ lies.tile.kind.0
  pub every : (place : Place) → IsMaterial layout place → (index : ℕ) × LiesIn tiles index place

-- the numbers of the tiles
abbrev pub regions_of : List RegionTile → List ℕ
regions_of tiles = map (λ tile. tile.region) tiles

-- Two tiles are of one region exactly where a chain of links leads from a place of the one to a place of the other.
-- The regions are numbered from 0 by their first tiles, and the count is their number.
pub record AreRegions (connects : ℕ → ℕ → Bool) (layout : Layout) (tiles : List RegionTile) (count : ℕ) : Type 0 where
  pub are_tiles : AreLayoutTiles layout tiles
  pub joined : (i j : ℕ) (a b : Place) → LiesIn tiles i a → LiesIn tiles j b
      → (slice_index (regions_of tiles) i ≡ slice_index (regions_of tiles) j) ↔ AreOneNode connects layout a b
  pub numbered : IsNumbered (regions_of tiles) count

-- The place lies in a tile of the region.
pub record IsInRegion (tiles : List RegionTile) (region : ℕ) (place : Place) : Type 0 where
  pub index : ℕ
  pub lies : LiesIn tiles index place
  pub numbered : lies.tile.region ≡ region

-- Each region has a row, with the area and the perimeter of its places in each class.
pub record AreMeasured (classes : List Class) (layout : Layout) (tiles : List RegionTile) (count : ℕ) (rows : List (List (ℤ × ℤ))) : Type 0 where
  pub one_each : length rows ≡ count
  pub each : (region : ℕ) (row : List (ℤ × ℤ)) → slice_get rows region ≡ Some row → AreMeasures classes layout (IsInRegion tiles region) row
