-- Parts that are given as rectangles with sets.
use Rattle.std.specs.Prelude.{◌==◌, ◌&&◌, ◌<◌, ℕ, if◌then◌else◌, bit_or, List, [], ◌∷◌, map, All}
use Rattle.std.specs.List.{range_with_len}
use Rattle.geo_core.specs.Areas.{IsNear}
use Rattle.geo_core.specs.Covering.{is_covered}
use Rattle.tech_model.specs.declared.raw.RawTech.{RawTech}
use Rattle.tech_model.specs.Types.{parts_of}
use Rattle.layout_model.specs.LayerTypes.{Kinds, or_space}
use Rattle.layout_model.specs.Places.{Place}
use Rattle.offences.specs.Offences.{SetLayout}
use Rattle.offences.specs.declared.set_tiles.SetTile.{SetTile}

-- what a tile adds to a part at a place of the plane
abbrev pub set_of_set_tile : ℕ → ℕ → SetTile → Place → ℕ
set_of_set_tile plane part tile place =
    if tile.part == part && place.plane == plane && is_covered tile.area place.square then tile.set.0 else 0

-- what the tiles of the plane make of a part: at each place the union of the sets of its tiles there
abbrev pub tile_part : List SetTile → ℕ → ℕ → SetLayout
tile_part [] plane part place = 0
tile_part (tile ∷ tiles) plane part place = bit_or (set_of_set_tile plane part tile place) (tile_part tiles plane part place)

-- the parts of these tiles, so many as there are said to be
abbrev pub tile_parts : List SetTile → ℕ → ℕ → List SetLayout
tile_parts tiles plane count = map (tile_part tiles plane) (range_with_len 0 count)

-- The tiles are of these parts, and lie within the range of planes.
abbrev pub AreTilesOfParts : ℕ → List SetTile → Type 0
AreTilesOfParts count tiles = All (λ tile. (tile.part < count) × IsNear tile.area) tiles

-- the set at each place of layers; what is undefined adds nothing
abbrev pub set_layout : RawTech → Kinds → SetLayout
set_layout raw kinds place = parts_of raw (or_space (kinds place.plane place.square))
