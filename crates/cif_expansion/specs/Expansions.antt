-- What the expansion of a CIF text gives, and when it is refused.
use Rattle.std.specs.Prelude.{◌≡◌, ℕ, List, length, map, slice_get, Some}
use Rattle.finite_sets.specs.Lists.{In}
use Rattle.geo_core.specs.declared.squares.Rect.{Rect}
use Rattle.geo_core.specs.Strips.{IsStrips}
use Rattle.cif_model.specs.Cifs.{CifParts}
use Rattle.cif_model.specs.Meanings.{StandsUnder, IsMeant}
use Rattle.cif_model.specs.Sizes.{size_of}
use Rattle.cif_expansion.specs.declared.expansion.LayerStrips.{LayerStrips}
use Rattle.cif_expansion.specs.declared.faults.ExpansionFault.{ExpansionFault}
use Rattle.cif_expansion.specs.declared.faults.ExpansionFault.TheVariants.{TooMany, OutOfRange, Memory}
use Rattle.cif_expansion.specs.steps.Drawings.{list_at}
use Rattle.cif_expansion.specs.Limits.{IsWithinLimits, IsFirstPast}
use Rattle.cif_expansion.specs.Reach.{LiesInRange}

-- the box of the layer stands under some list of calls from the top level
abbrev pub Expands : CifParts → ℕ → Rect → Type 0
Expands cif layer box = (calls : List ℕ) × StandsUnder cif.symbols layer calls cif.top box

-- all boxes lie within the range
abbrev pub StaysInRange : CifParts → Type 0
StaysInRange cif = (layer : ℕ) (box : Rect) → Expands cif layer box → LiesInRange box

-- Some box leaves the range.
pub record StandsOutside (cif : CifParts) : Type 0 where
  pub layer : ℕ
  pub box : Rect
  pub expands : Expands cif layer box
  pub is_outside : LiesInRange box → ⊥

-- The lists have the boxes of the layers, and all lie within the range.
pub record AreBoxesOf (cif : CifParts) (boxes : List (List Rect)) : Type 0 where
  pub one_each : length boxes ≡ length cif.layers
  pub every : (layer : ℕ) (box : Rect) → Expands cif layer box → In box (list_at boxes layer)
  pub only : (layer : ℕ) (box : Rect) → In box (list_at boxes layer) → Expands cif layer box
  pub in_range : StaysInRange cif

-- There is one entry for each layer of the text, in order, with its name and the strips of the squares that the text gives to it. The text is
-- past no limit, and all boxes lie within the range.
pub record IsExpanded (cif : CifParts) (layers : List LayerStrips) : Type 0 where
  pub within : IsWithinLimits (size_of cif)
  pub in_range : StaysInRange cif
  pub names : map (λ layer. layer.name) layers ≡ cif.layers
  pub strips : (place : ℕ) (layer : LayerStrips) → slice_get layers place ≡ Some layer → IsStrips (IsMeant cif place) layer.strips

-- when each fault comes; want of memory may always
abbrev pub IsRefused : CifParts → ExpansionFault → Type 0
IsRefused cif (TooMany limit) = IsFirstPast limit (size_of cif)
IsRefused cif OutOfRange = IsWithinLimits (size_of cif) × StandsOutside cif
IsRefused cif Memory = Unit {0}
