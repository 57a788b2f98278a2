-- Edges that tiles of one plane share, and what lengths of edges count.
use Rattle.std.specs.Prelude.{◌≡◌, ◌≢◌, ◌<◌, ◌==◌, ◌&&◌, ℕ, ℤ, pos, ◌+ℤ◌, ◌-ℤ◌, ◌*ℤ◌, ◌<ℤ◌, Bool, true, false, not, IsTrue, if◌then◌else◌, List, length}
use Rattle.std.specs.Prelude.{slice_index_or, All, AllPairs}
use Rattle.std.specs.List.{range_with_len, list_any}
use Rattle.geo_core.specs.FiniteSets.Lists.{Lists}
use Rattle.geo_core.specs.FiniteSets.Total.{sum_on, one_if}
use Rattle.geo_core.specs.declared.squares.Rect.{Rect}
use Rattle.rect_contacts.specs.declared.contacts.Contact.{Contact}
use Rattle.rect_contacts.specs.Contacts.{shared_length}
use Rattle.rect_contacts.specs.Rects.{no_rect}
use Rattle.rect_contacts.specs.Squares.{area_of, perimeter_of}
use Rattle.layout_model.specs.Places.{Place}
use Rattle.layout_model.specs.Layouts.{Layout}
use Rattle.layout_model.specs.Measures.{IsPerimeter}
use Rattle.layout_model.specs.declared.region_tiles.RegionTile.{RegionTile}
use Rattle.layout_model.specs.EdgeCounts.{IsEdgeCount}
use Rattle.layout_model.specs.RegionTiles.{LiesIn, AreLayoutTiles}

abbrev pub no_tile : RegionTile
no_tile = record { plane = 0; area = no_rect; kind = record { 0 = 0 }; region = 0 }

-- the tile at a place of the list, and one without a square past its end
abbrev pub tile_at : List RegionTile → ℕ → RegionTile
tile_at tiles index = slice_index_or tiles index no_tile

abbrev pub indices_of : List RegionTile → List ℕ
indices_of tiles = range_with_len 0 (length tiles)

-- the length of the edge that two tiles share: none on two planes
abbrev pub shared_by : RegionTile → RegionTile → ℤ
shared_by a b = if a.plane == b.plane then shared_length a.area b.area else pos 0

-- Two tiles of the list share an edge, of this length. The one that comes first in the list is named first.
pub record IsTileContact (tiles : List RegionTile) (contact : Contact) : Type 0 where
  pub in_order : contact.first < contact.second
  pub in_list : contact.second < length tiles
  pub length_is : contact.length ≡ shared_by (tile_at tiles contact.first) (tile_at tiles contact.second)
  pub not_none : pos 0 <ℤ contact.length

-- the test of two contacts of the same tiles
abbrev pub is_contact : Contact → Contact → Bool
is_contact a b = a.first == b.first && a.second == b.second

-- These are the contacts of the tiles, each once. There is one way at most to show that.
pub record AreTileContacts (tiles : List RegionTile) (contacts : List Contact) : Type 0 where
  pub each : All (IsTileContact tiles) contacts
  pub once : AllPairs (λ a b. a ≢ b) contacts
  pub whole : (contact : Contact) → IsTileContact tiles contact → IsTrue (list_any (is_contact contact) contacts)

-- The place lies in a tile that passes the test.
pub record IsInTiles (tiles : List RegionTile) (test : ℕ → Bool) (place : Place) : Type 0 where
  pub index : ℕ
  pub lies : LiesIn tiles index place
  pub passes : test index ≡ true

-- of the four edges of each square of a rectangle, how many lead to squares of the rectangle
abbrev pub inner_edges : Rect → ℤ
inner_edges area = (pos 4 *ℤ area_of area) -ℤ perimeter_of area

-- how many edges lead from tiles of the first sort to tiles of the second, counted by tiles and contacts
abbrev pub edges_by_contacts : List RegionTile → List Contact → (ℕ → Bool) → (ℕ → Bool) → ℤ
edges_by_contacts tiles contacts from to =
    sum_on (λ i. one_if (from i && to i) *ℤ inner_edges (tile_at tiles i).area) (indices_of tiles)
    +ℤ sum_on (λ c. (one_if (from c.first && to c.second) +ℤ one_if (from c.second && to c.first)) *ℤ c.length) contacts

-- The law: the number of unit edges from places of some tiles to neighbours in some tiles is what the lengths of contacts say.
abbrev pub ContactsCountEdges : Type 0
ContactsCountEdges =
    (layout : Layout) (tiles : List RegionTile) (contacts : List Contact) (from to : ℕ → Bool)
    → AreLayoutTiles layout tiles → Lists (IsTileContact tiles) contacts
    → IsEdgeCount (IsInTiles tiles from) (IsInTiles tiles to) (edges_by_contacts tiles contacts from to)

-- how many edges lead out of these tiles to no tile of the second sort, by tiles and contacts
abbrev pub open_by_contacts : List RegionTile → List Contact → (ℕ → Bool) → (ℕ → Bool) → ℤ
open_by_contacts tiles contacts from to =
    sum_on (λ i. if from i then perimeter_of (tile_at tiles i).area else pos 0) (indices_of tiles)
    -ℤ sum_on (λ c. (one_if (from c.first && to c.second) +ℤ one_if (from c.second && to c.first)) *ℤ c.length) contacts

-- the tile at this index is of the class
abbrev pub is_of : List RegionTile → (ℕ → Bool) → ℕ → Bool
is_of tiles in_class i = in_class (tile_at tiles i).kind.0

-- The law: of some tiles of a class, the edges to neighbours that are not of the class are their perimeters less what they share
-- with tiles of the class.
abbrev pub ContactsCloseEdges : Type 0
ContactsCloseEdges =
    (layout : Layout) (tiles : List RegionTile) (contacts : List Contact) (in_class from : ℕ → Bool)
    → AreLayoutTiles layout tiles → Lists (IsTileContact tiles) contacts → in_class 0 ≡ false
    → ((i : ℕ) → from i ≡ true → is_of tiles in_class i ≡ true)
    → IsEdgeCount (IsInTiles tiles from) (λ place. not (in_class (layout place)) ≡ true) (open_by_contacts tiles contacts from (is_of tiles in_class))

-- The law: areas and perimeters of some tiles in a class.
abbrev pub TilesMeasure : Type 0
TilesMeasure =
    (layout : Layout) (tiles : List RegionTile) (contacts : List Contact) (in_class from : ℕ → Bool)
    → AreLayoutTiles layout tiles → Lists (IsTileContact tiles) contacts → in_class 0 ≡ false
    → IsPerimeter in_class layout (IsInTiles tiles from) (open_by_contacts tiles contacts (λ i. from i && is_of tiles in_class i) (is_of tiles in_class))
