-- Tiles of two planes that lie upon each other, and links between tiles.
use Rattle.std.specs.Prelude.{◌≡◌, ◌⊎◌, ℕ, ◌<◌, nat_lt, Bool, true, IsTrue, is_some, List, length, map, filter, slice_index, All, AllPairs}
use Rattle.geo_core.specs.declared.squares.Rect.{Rect}
use Rattle.geo_core.specs.Areas.{IsNear}
use Rattle.geo_core.specs.Covering.{IsProper}
use Rattle.geo_core.specs.FiniteSets.Lists.{In}
use Rattle.tech_model.specs.declared.raw.RawTech.{RawTech}
use Rattle.tech_model.specs.Types.{is_type, plane_of, layer_of, images_of, image_on, connects}
use Rattle.rect_contacts.specs.declared.contacts.Contact.{Contact}
use Rattle.layout_model.specs.RegionTiles.{LieApart}
use Rattle.layout_model.specs.declared.region_tiles.RegionTile.{RegionTile}
use Rattle.flood_nodes.specs.TileShares.{tile_at}
use Rattle.flood_nodes.specs.steps.LinkedTiles.{AreLinkedTiles, MeetAt}

-- Each tile is of a type of the technology, on its plane.
abbrev pub AreTyped : RawTech → List RegionTile → Type 0
AreTyped raw tiles = All (λ tile. IsTrue (is_type raw tile.kind.0) × (plane_of raw tile.kind.0 ≡ tile.plane)) tiles

-- The tiles have squares and bounds within planes, and no place lies in two.
pub record AreSpread (tiles : List RegionTile) : Type 0 where
  pub proper : All (λ tile. IsProper tile.area) tiles
  pub near : All (λ tile. IsNear tile.area) tiles
  pub apart : AllPairs LieApart tiles

-- the layer of the type has images on several planes
abbrev pub has_other_images : RawTech → ℕ → Bool
has_other_images raw kind = nat_lt 1 (length (images_of raw (layer_of raw kind)))

-- it has an image on the plane
abbrev pub reaches : RawTech → ℕ → ℕ → Bool
reaches raw plane kind = is_some (image_on raw (layer_of raw kind) plane)

-- the place of a tile whose layer has images on several planes
abbrev pub IsCrossing : RawTech → List RegionTile → ℕ → Type 0
IsCrossing raw tiles place = (place < length tiles) × (has_other_images raw (tile_at tiles place).kind.0 ≡ true)

-- and of one of them that is of a plane, with an image on the other
pub record IsReaching (raw : RawTech) (tiles : List RegionTile) (plane other place : ℕ) : Type 0 where
  pub crossing : IsCrossing raw tiles place
  pub on_plane : (tile_at tiles place).plane ≡ plane
  pub reaches : reaches raw other (tile_at tiles place).kind.0 ≡ true

abbrev pub areas_at : List RegionTile → List ℕ → List Rect
areas_at tiles places = map (λ place. (tile_at tiles place).area) places

-- pairs of places in two lists, as pairs of what stands there
abbrev pub placed_in : List ℕ → List ℕ → List (ℕ × ℕ) → List (ℕ × ℕ)
placed_in lows highs pairs = map (λ pair. (slice_index lows pair.0, slice_index highs pair.1)) pairs

abbrev pub pairs_beside : List Contact → List (ℕ × ℕ)
pairs_beside contacts = map (λ contact. (contact.first, contact.second)) contacts

-- the pairs of tiles whose types connect
abbrev pub connected : RawTech → List RegionTile → List (ℕ × ℕ) → List (ℕ × ℕ)
connected raw tiles pairs = filter (λ pair. connects raw (tile_at tiles pair.0).kind.0 (tile_at tiles pair.1).kind.0) pairs

-- Pairs of tiles that meet are added, all linked ones among them of which the first is of one of some planes, and the second of one of others.
pub record AddsMeeting (raw : RawTech) (tiles : List RegionTile) (Low : ℕ → Type 0) (High : ℕ → ℕ → Type 0) (old new : List (ℕ × ℕ)) : Type 0 where
  pub kept : (pair : ℕ × ℕ) → In pair old → In pair new
  pub sound : (pair : ℕ × ℕ) → In pair new → In pair old ⊎ MeetAt tiles pair.0 pair.1
  pub whole : (i j : ℕ) → AreLinkedTiles (connects raw) tiles i j → Low (tile_at tiles i).plane → High (tile_at tiles i).plane (tile_at tiles j).plane
      → In {X = ℕ × ℕ} (i, j) new

-- those of two planes
abbrev pub AddsStacked : RawTech → List RegionTile → ℕ → ℕ → List (ℕ × ℕ) → List (ℕ × ℕ) → Type 0
AddsStacked raw tiles low high old new = AddsMeeting raw tiles (λ p. p ≡ low) (λ p q. q ≡ high) old new

-- those of a plane and of the planes above it
abbrev pub AddsStackedAbove : RawTech → List RegionTile → ℕ → ℕ → List (ℕ × ℕ) → List (ℕ × ℕ) → Type 0
AddsStackedAbove raw tiles low planes old new = AddsMeeting raw tiles (λ p. p ≡ low) (λ p q. (p < q) × (q < planes)) old new

-- those of planes before one, and of the planes above each
abbrev pub AddsAllStacked : RawTech → List RegionTile → ℕ → List (ℕ × ℕ) → List (ℕ × ℕ) → Type 0
AddsAllStacked raw tiles planes old new = AddsMeeting raw tiles (λ p. p < planes) (λ p q. (p < q) × (q < planes)) old new
