-- The sets that parts have where the same tiles cover each square.
use Rattle.std.specs.Prelude.{◌≡◌, ◌≢◌, ◌<◌, ◌≤◌, ◌==◌, ℕ, bit_or, if◌then◌else◌, List, [], ◌∷◌, slice_index_or, AllPairs}
use Rattle.geo_core.specs.FiniteSets.Lists.{In}
use Rattle.rect_overlays.specs.RectContacts.Rects.{no_rect}
use Rattle.offences.specs.declared.set_tiles.SetTile.{SetTile}
use Rattle.offences.specs.declared.part_sets.PartSum.{PartSum}

-- a tile without a square
abbrev pub no_tile : SetTile
no_tile = record { part = 0; area = no_rect; set = record { 0 = 0 } }

-- the tile at a place of a list, and one without a square past its end
abbrev pub tile_at : List SetTile → ℕ → SetTile
tile_at tiles place = slice_index_or tiles place no_tile

-- The tiles stand in the order of their parts.
abbrev pub AreInPartOrder : List SetTile → Type 0
AreInPartOrder tiles = AllPairs (λ a b. a.part ≤ b.part) tiles

-- the set, where it is one of the part asked for
abbrev pub set_if : ℕ → ℕ → ℕ → ℕ
set_if part owner set = if owner == part then set else 0

-- the union of the sets of a part's tiles among those at these places of a list
abbrev pub member_set : List SetTile → ℕ → List ℕ → ℕ
member_set tiles part [] = 0
member_set tiles part (member ∷ members) = bit_or (set_if part (tile_at tiles member).part (tile_at tiles member).set.0)
    (member_set tiles part members)

-- the union of the sets that are listed for a part
abbrev pub listed_set : ℕ → List PartSum → ℕ
listed_set part [] = 0
listed_set part (sum ∷ sums) = bit_or (set_if part sum.part sum.set.0) (listed_set part sums)

-- the union of all sets that are listed
abbrev pub all_sets : List PartSum → ℕ
all_sets [] = 0
all_sets (sum ∷ sums) = bit_or sum.set.0 (all_sets sums)

-- A part with this number has one of the tiles at these places.
pub record HasMember (tiles : List SetTile) (members : List ℕ) (part : ℕ) : Type 0 where
  pub member : ℕ
  pub listed : In member members
  pub is : (tile_at tiles member).part ≡ part

-- For each part that has something there what it has is listed, once, in the order of parts.
pub record HaveSetsOf (tiles : List SetTile) (members : List ℕ) (sums : List PartSum) : Type 0 where
  pub sets : (part : ℕ) → listed_set part sums ≡ member_set tiles part members
  pub ordered : AllPairs (λ a b. a.part < b.part) sums
  pub parts : (sum : PartSum) → In sum sums → HasMember tiles members sum.part
  pub material : (sum : PartSum) → In sum sums → sum.set.0 ≢ 0
