-- Where labels attach, and which of them name the places that they attach to.
use Rattle.std.specs.Prelude.{◌≡◌, ◌⊎◌, ◌<◌, ℕ, ℤ, pos, ◌+ℤ◌, ◌-ℤ◌, IsTrue, if◌then◌else◌, List, [], length, map, slice_index_or, AllPairs, Some, None}
use Rattle.std.specs.Ordering.{int_eq}
use Rattle.geo_core.specs.FiniteSets.Lists.{Lists}
use Rattle.geo_core.specs.FiniteSets.Least.{IsLeast}
use Rattle.geo_core.specs.declared.squares.Rect.{Rect}
use Rattle.geo_core.specs.Covering.{Covers}
use Rattle.tech_model.specs.declared.raw.Label.{Label}
use Rattle.tech_model.specs.declared.raw.TypeId.{TypeId}
use Rattle.tech_model.specs.declared.raw.LayerId.{LayerId}
use Rattle.tech_model.specs.declared.raw.RawTech.{RawTech}
use Rattle.tech_model.specs.Types.{image_on, is_within}
use Rattle.layout_model.specs.Places.{Place, IsNoLater}
use Rattle.layout_model.specs.Layouts.{Layout}
use Rattle.ext_model.specs.NodeNames.{is_naming_text, is_global}

-- What a label touches along an axis: from its low bound on and before its high one, and where they are one, the squares on both sides.
abbrev pub touched_along : ℤ → ℤ → ℤ × ℤ
touched_along lo hi = if int_eq lo hi then (lo -ℤ pos 1, hi +ℤ pos 1) else (lo, hi)

-- the squares that a label touches
abbrev pub touched : Rect → Rect
touched area = record {
  xlo = (touched_along area.xlo area.xhi).0;
  ylo = (touched_along area.ylo area.yhi).0;
  xhi = (touched_along area.xlo area.xhi).1;
  yhi = (touched_along area.ylo area.yhi).1;
}

-- The label touches the place, and its layer has an image on that plane that is within the type there.
pub record Suits (raw : RawTech) (layout : Layout) (label : Label) (place : Place) : Type 0 where
  pub layer : LayerId
  pub has_layer : label.layer ≡ Some layer
  pub touches : Covers (touched label.area) place.square
  pub image : TypeId
  pub has_image : image_on raw layer.0 place.plane ≡ Some image
  pub within : IsTrue (is_within raw image.0 (layout place))

-- The label's text names, and this is the least place that the label suits.
pub record AttachesTo (raw : RawTech) (layout : Layout) (label : Label) (place : Place) : Type 0 where
  pub names : IsTrue (is_naming_text label.text)
  pub least : IsLeast IsNoLater (Suits raw layout label) place

-- a label that names nothing
abbrev pub no_label : Label
no_label = record { layer = None; area = record { xlo = pos 0; ylo = pos 0; xhi = pos 0; yhi = pos 0 }; position = 0; text = [] }

-- the label at an index of the list
abbrev pub label_at : List Label → ℕ → Label
label_at labels index = slice_index_or labels index no_label

-- No label before this index has the text and attaches anywhere.
abbrev pub IsFirstToAttach : RawTech → Layout → List Label → List ℕ → ℕ → Type 0
IsFirstToAttach raw layout labels text index =
    (earlier : ℕ) (place : Place) → earlier < index → (label_at labels earlier).text ≡ text
    → AttachesTo raw layout (label_at labels earlier) place → ⊥

-- The label at this index gives its text to the place: it attaches there, and it is global or the first with its text that attaches.
pub record NamesPlace (raw : RawTech) (layout : Layout) (labels : List Label) (index : ℕ) (place : Place) : Type 0 where
  pub in_list : index < length labels
  pub attaches : AttachesTo raw layout (label_at labels index) place
  pub counts : IsTrue (is_global (label_at labels index).text) ⊎ IsFirstToAttach raw layout labels (label_at labels index).text index

-- The text is one of the place: a label gives it.
pub record HasText (raw : RawTech) (layout : Layout) (labels : List Label) (text : List ℕ) (place : Place) : Type 0 where
  pub index : ℕ
  pub is : (label_at labels index).text ≡ text
  pub names : NamesPlace raw layout labels index place

-- The texts of the labels at the indices with a fact, in the order of the labels.
pub record AreTextsOf (labels : List Label) (Has : ℕ → Type 0) (texts : List (List ℕ)) : Type 0 where
  pub indices : List ℕ
  pub listed : Lists Has indices
  pub in_order : AllPairs ◌<◌ indices
  pub are : texts ≡ map (λ index. (label_at labels index).text) indices

-- The label at this index names no place.
abbrev pub IsUnattached : RawTech → Layout → List Label → ℕ → Type 0
IsUnattached raw layout labels index = (index < length labels) × ((place : Place) → NamesPlace raw layout labels index place → ⊥)

-- The texts of the labels that name no place, in the order of the labels.
abbrev pub AreUnattached : RawTech → Layout → List Label → List (List ℕ) → Type 0
AreUnattached raw layout labels texts = AreTextsOf labels (IsUnattached raw layout labels) texts
