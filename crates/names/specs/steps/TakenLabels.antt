-- Which tiles a label may attach to, and where on them.
use Rattle.std.specs.Prelude.{◌≡◌, ◌&&◌, ◌==◌, nat_lt, int_lt, if◌then◌else◌, ℕ, Bool, true, false, List, length, Option, Some, None, slice_index_or}
use Rattle.std.specs.Ordering.{int_eq}
use Rattle.geo_core.specs.FiniteSets.Lists.{In}
use Rattle.geo_core.specs.Areas.{has_square, common_rect, corner_of}
use Rattle.tech_model.specs.declared.raw.Label.{Label}
use Rattle.tech_model.specs.declared.raw.TypeId.{TypeId}
use Rattle.tech_model.specs.declared.raw.LayerId.{LayerId}
use Rattle.tech_model.specs.declared.raw.RawTech.{RawTech}
use Rattle.tech_model.specs.Types.{image_on, is_within}
use Rattle.layout_model.specs.Places.{Place, IsNoLater}
use Rattle.layout_model.specs.declared.region_tiles.RegionTile.{RegionTile}
use Rattle.ext_model.specs.NodeNames.{is_naming_text}
use Rattle.names.specs.declared.attaching.Attachment.{Attachment}
use Rattle.names.specs.Attachments.{touched, label_at}

-- the image, where there is one, is within the type
abbrev pub image_within : RawTech → ℕ → Option TypeId → Bool
image_within raw kind None = false
image_within raw kind (Some image) = is_within raw image.0 kind

-- the layer, where there is one, has an image on the plane that is within the type
abbrev pub suits_kind : RawTech → Option LayerId → ℕ → ℕ → Bool
suits_kind raw None plane kind = false
suits_kind raw (Some layer) plane kind = image_within raw kind (image_on raw layer.0 plane)

-- the label suits places of the tile
abbrev pub takes : RawTech → Label → RegionTile → Bool
takes raw label tile = suits_kind raw label.layer tile.plane tile.kind.0 && has_square (common_rect (touched label.area) tile.area)

-- the least of these places
abbrev pub attachment_on : Label → RegionTile → Attachment
attachment_on label tile = record { plane = tile.plane; square = corner_of (common_rect (touched label.area) tile.area); region = tile.region }

abbrev pub place_of : Attachment → Place
place_of attachment = record { plane = attachment.plane; square = attachment.square }

-- the first place comes before the second
abbrev pub stands_earlier : Attachment → Attachment → Bool
stands_earlier a b =
    if a.plane == b.plane
    then (if int_eq a.square.y b.square.y then int_lt a.square.x b.square.x else int_lt a.square.y b.square.y)
    else nat_lt a.plane b.plane

-- the earlier of two, where there are two
abbrev pub earlier : Option Attachment → Option Attachment → Option Attachment
earlier None other = other
earlier (Some first) None = Some first
earlier (Some first) (Some second) = if stands_earlier second first then Some second else Some first

-- It is on the tile, of those with a fact, that has the least place that the label suits.
pub record IsLeastOn (raw : RawTech) (label : Label) (Seen : RegionTile → Type 0) (attachment : Attachment) : Type 0 where
  pub tile : RegionTile
  pub seen : Seen tile
  pub taken : takes raw label tile ≡ true
  pub is : attachment ≡ attachment_on label tile
  pub least : (other : RegionTile) → Seen other → takes raw label other ≡ true → IsNoLater (place_of attachment) (place_of (attachment_on label other))

-- the same, or there is no such tile
abbrev pub IsLeastTaken : RawTech → Label → (RegionTile → Type 0) → Option Attachment → Type 0
IsLeastTaken raw label Seen None = (tile : RegionTile) → Seen tile → takes raw label tile ≡ true → ⊥
IsLeastTaken raw label Seen (Some attachment) = IsLeastOn raw label Seen attachment

-- Where the label attaches, if its text names.
pub record IsAttachment (raw : RawTech) (tiles : List RegionTile) (label : Label) (found : Option Attachment) : Type 0 where
  pub names : is_naming_text label.text ≡ true → IsLeastTaken raw label (λ tile. In tile tiles) found
  pub nameless : is_naming_text label.text ≡ false → found ≡ None

-- what was found at an index of the list
abbrev pub found_at : List (Option Attachment) → ℕ → Option Attachment
found_at found index = slice_index_or found index None

-- Where each of the labels attaches.
pub record AreAttachments (raw : RawTech) (tiles : List RegionTile) (labels : List Label) (found : List (Option Attachment)) : Type 0 where
  pub so_many : length found ≡ length labels
  pub each : (index : ℕ) → IsAttachment raw tiles (label_at labels index) (found_at found index)
