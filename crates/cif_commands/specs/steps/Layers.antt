-- Layers with their strips, as their squares are counted.
use Rattle.std.specs.Prelude.{ℕ, ℤ, List, All}
use Rattle.geo_core.specs.declared.squares.Rect.{Rect}
use Rattle.geo_core.specs.Areas.{IsNear}
use Rattle.geo_core.specs.Covering.{IsProper}
use Rattle.geo_core.specs.FiniteSets.Total.{sum_on}
use Rattle.rect_contacts.specs.Squares.{area_of}
use Rattle.cif_expansion.specs.declared.expansion.LayerStrips.{LayerStrips}

-- A rectangle with a square, no edge of which is past those of planes.
pub record IsNearStrip (strip : Rect) : Type 0 where
  pub proper : IsProper strip
  pub near : IsNear strip

-- all strips of the layer are so
abbrev pub HasNearStrips : LayerStrips → Type 0
HasNearStrips layer = All IsNearStrip layer.strips

-- the name of a layer, and the areas of its strips together
abbrev pub layer_area : LayerStrips → List ℕ × ℤ
layer_area layer = (layer.name, sum_on area_of layer.strips)
