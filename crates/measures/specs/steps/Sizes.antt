-- What tiles and their contacts count in a class.
use Rattle.std.specs.Prelude.{◌&&◌, ℕ, ℤ, pos, ◌-ℤ◌, Bool, if◌then◌else◌, List, [], ◌∷◌, map, length}
use Rattle.flood_nodes.specs.RectContacts.declared.contacts.Contact.{Contact}
use Rattle.flood_nodes.specs.RectContacts.Squares.{area_of, perimeter_of}
use Rattle.layout_model.specs.declared.region_tiles.RegionTile.{RegionTile}
use Rattle.key_sums.specs.declared.Amount.{Amount}
use Rattle.flood_nodes.specs.TileShares.{tile_at}

abbrev pub area_in : (ℕ → Bool) → RegionTile → ℤ
area_in contains tile = if contains tile.kind.0 then area_of tile.area else pos 0

abbrev pub perimeter_in : (ℕ → Bool) → RegionTile → ℤ
perimeter_in contains tile = if contains tile.kind.0 then perimeter_of tile.area else pos 0

-- what an edge between two tiles takes off the perimeter of each
abbrev pub shared_in : (ℕ → Bool) → RegionTile → RegionTile → ℤ → ℤ
shared_in contains first second length = if contains first.kind.0 && contains second.kind.0 then (pos 0 -ℤ length) else pos 0

-- for each tile its area in the class
abbrev pub area_amounts : (ℕ → Bool) → List RegionTile → List Amount
area_amounts contains tiles = map (λ tile. record { key = tile.region; value = area_in contains tile }) tiles

-- for each tile its perimeter in the class
abbrev pub perimeter_amounts : (ℕ → Bool) → List RegionTile → List Amount
perimeter_amounts contains tiles = map (λ tile. record { key = tile.region; value = perimeter_in contains tile }) tiles

-- for each contact what it takes off the perimeters of the regions of its tiles
abbrev pub shared_amounts : (ℕ → Bool) → List RegionTile → List Contact → List Amount
shared_amounts contains tiles [] = []
shared_amounts contains tiles (contact ∷ contacts) =
    record {
      key = (tile_at tiles contact.first).region;
      value = shared_in contains (tile_at tiles contact.first) (tile_at tiles contact.second)
          contact.length;
    }
    ∷ record {
      key = (tile_at tiles contact.second).region;
      value = shared_in contains (tile_at tiles contact.first) (tile_at tiles contact.second)
          contact.length;
    }
    ∷ shared_amounts contains tiles contacts
