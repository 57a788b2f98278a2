-- What is asked of labels.
use Rattle.std.specs.Prelude.{◌<◌, length, Option, Some, None}
use Rattle.geo_core.specs.Areas.{IsNear}
use Rattle.tech_model.specs.declared.raw.Label.{Label}
use Rattle.tech_model.specs.declared.raw.LayerId.{LayerId}
use Rattle.tech_model.specs.declared.raw.RawTech.{RawTech}

-- the layer, where there is one, is the technology's
abbrev pub IsLayerOf : RawTech → Option LayerId → Type 0
IsLayerOf raw None = Unit {0}
IsLayerOf raw (Some layer) = layer.0 < length raw.layers

-- The label's layer is the technology's, or it is space, and the bounds of its area are within planes.
pub record IsLabelOf (raw : RawTech) (label : Label) : Type 0 where
  pub layer : IsLayerOf raw label.layer
  pub near : IsNear label.area
