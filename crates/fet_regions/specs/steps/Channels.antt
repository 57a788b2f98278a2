-- Tiles of one type that share an edge.
use Rattle.std.specs.Prelude.{◌==◌, ℕ, Bool, List, filter}
use Rattle.rect_contacts.specs.declared.contacts.Contact.{Contact}
use Rattle.layout_model.specs.declared.region_tiles.RegionTile.{RegionTile}
use Rattle.flood_nodes.specs.TileShares.{tile_at}
use Rattle.flood_nodes.specs.Stacking.{pairs_beside}

-- the two tiles of the contact are of one type
abbrev pub are_alike : List RegionTile → Contact → Bool
are_alike tiles contact = (tile_at tiles contact.first).kind.0 == (tile_at tiles contact.second).kind.0

-- the places in the list of the two tiles of each contact between tiles of one type
abbrev pub alike_pairs : List RegionTile → List Contact → List (ℕ × ℕ)
alike_pairs tiles contacts = pairs_beside (filter (are_alike tiles) contacts)
