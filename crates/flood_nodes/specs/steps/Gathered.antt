-- Tiles that are gathered plane by plane.
use Rattle.std.specs.Prelude.{ℕ, nat_lt, if◌then◌else◌}
use Rattle.geo_core.specs.declared.squares.Rect.{Rect}
use Rattle.tech_model.specs.declared.raw.TypeId.{TypeId}
use Rattle.layout_model.specs.Layouts.{Layout}
use Rattle.layout_model.specs.declared.region_tiles.RegionTile.{RegionTile}

-- a tile of a plane, before regions are numbered
abbrev pub tile_on : ℕ → Rect × TypeId → RegionTile
tile_on plane tile = record { plane = plane; area = tile.0; kind = tile.1; region = 0 }

-- the layout on the planes before this one
abbrev pub before_plane : ℕ → Layout → Layout
before_plane plane layout place = if nat_lt place.plane plane then layout place else 0
