-- Runs of tiles of one plane, and the contacts that they add.
use Rattle.std.specs.Prelude.{◌≡◌, ℕ, ◌+◌, List, ◌++◌, map}
use Rattle.geo_core.specs.declared.squares.Rect.{Rect}
use Rattle.geo_core.specs.FiniteSets.Lists.{Lists}
use Rattle.rect_contacts.specs.declared.contacts.Contact.{Contact}
use Rattle.rect_contacts.specs.Contacts.{IsSharedEdge}
use Rattle.layout_model.specs.declared.region_tiles.RegionTile.{RegionTile}

-- the rectangles of tiles
abbrev pub areas_of : List RegionTile → List Rect
areas_of tiles = map (λ tile. tile.area) tiles

-- a contact of tiles that stand in a list from a place on
abbrev pub shifted : ℕ → Contact → Contact
shifted start contact = record { first = contact.first + start; second = contact.second + start; length = contact.length }

-- The contacts of a run of tiles, which stands in a list from a place on, are added at the end.
pub record AddsContacts (run : List RegionTile) (start : ℕ) (old new : List Contact) : Type 0 where
  pub contacts : List Contact
  pub touching : Lists (IsSharedEdge (areas_of run)) contacts
  pub shared : new ≡ old ++ map (shifted start) contacts
