-- The lengths of terminals, by the label of the channel's tiles and the region of the terminal.
use Rattle.std.specs.Prelude.{◌≡◌, ◌==◌, ◌&&◌, ℕ, ℤ, pos, Bool, if◌then◌else◌, List, [], ◌∷◌, ◌++◌, slice_index, Option, Some, None, AllPairs, ◌<◌}
use Rattle.std.specs.List.{flat_map, list_any}
use Rattle.std.specs.declared.cmp.Ordering.{Ordering}
use Rattle.std.specs.Ordering.{nat_cmp, ordering_then}
use Rattle.finite_sets.specs.Lists.{In}
use Rattle.finite_sets.specs.Total.{sum_on}
use Rattle.rect_contacts.specs.declared.contacts.Contact.{Contact}
use Rattle.layout_model.specs.declared.region_tiles.RegionTile.{RegionTile}
use Rattle.flood_nodes.specs.TileShares.{tile_at}
use Rattle.fet_regions.specs.declared.lengths.Part.{Part}

-- what a contact adds to a terminal's length, if the second tile is of a type that is a terminal beside the first
abbrev pub parts_beside : (ℕ → ℕ → Bool) → List RegionTile → List ℕ → ℕ → ℕ → ℤ → List Part
parts_beside is_terminal tiles labels channel beside length =
    if is_terminal (tile_at tiles channel).kind.0 (tile_at tiles beside).kind.0
    then record { label = slice_index labels channel; region = (tile_at tiles beside).region; length = length } ∷ []
    else []

-- what a contact adds, seen from both of its tiles
abbrev pub parts_at : (ℕ → ℕ → Bool) → List RegionTile → List ℕ → Contact → List Part
parts_at is_terminal tiles labels contact =
    parts_beside is_terminal tiles labels contact.first contact.second contact.length
    ++ parts_beside is_terminal tiles labels contact.second contact.first contact.length

-- what the contacts add
abbrev pub parts_of : (ℕ → ℕ → Bool) → List RegionTile → List ℕ → List Contact → List Part
parts_of is_terminal tiles labels contacts = flat_map (parts_at is_terminal tiles labels) contacts

-- it is a part of the length from this label to this region
abbrev pub is_part_of : ℕ × ℕ → Part → Bool
is_part_of key part = part.label == key.0 && part.region == key.1

abbrev pub part_in : ℕ × ℕ → Part → ℤ
part_in key part = if is_part_of key part then part.length else pos 0

-- the length from a label to a region: the sum of its parts, and nothing where it has none
abbrev pub summed : List Part → ℕ × ℕ → Option ℤ
summed parts key = if list_any (is_part_of key) parts then Some (sum_on (part_in key) parts) else None

-- the order of labels, and then of regions
abbrev pub key_cmp : ℕ × ℕ → ℕ × ℕ → Ordering
key_cmp a b = ordering_then (nat_cmp a.0 b.0) (nat_cmp a.1 b.1)

-- Each region comes before the next.
abbrev pub AreByRegion : List (ℕ × ℤ) → Type 0
AreByRegion terminals = AllPairs (λ a b. a.0 < b.0) terminals

-- The terminals are the regions that a label has a length to, with the lengths.
pub record AreTerminals (lengths : ℕ × ℕ → Option ℤ) (label : ℕ) (terminals : List (ℕ × ℤ)) : Type 0 where
  pub sound : (region : ℕ) (length : ℤ) → In {X = ℕ × ℤ} (region, length) terminals → lengths (label, region) ≡ Some length
  pub whole : (region : ℕ) (length : ℤ) → lengths (label, region) ≡ Some length → In {X = ℕ × ℤ} (region, length) terminals
  pub by_region : AreByRegion terminals
