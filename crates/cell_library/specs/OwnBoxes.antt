-- The box of what a cell has of its own: its paint and its labels.
use Rattle.std.specs.Prelude.{◌⊎◌, List, Option, Some, None, MatchOption}
use Rattle.geo_core.specs.FiniteSets.Lists.{In}
use Rattle.geo_core.specs.declared.squares.Rect.{Rect}
use Rattle.geo_core.specs.Areas.{LiesWithin, joined_rect}
use Rattle.geo_core.specs.Covering.{Covers}
use Rattle.tech_model.specs.declared.raw.Label.{Label}
use Rattle.cell_bodies.specs.LayoutModel.Places.{Place}
use Rattle.cell_bodies.specs.LayoutModel.Layouts.{Layout, IsMaterial}

-- the rectangle holds all material and all labels
pub record HoldsOwn (own : Layout) (labels : List Label) (area : Rect) : Type 0 where
  pub material : (place : Place) → IsMaterial own place → Covers area place.square
  pub labels_within : (label : Label) → In label labels → LiesWithin label.area area

-- there is material, or there is a label
abbrev pub HasOwn : Layout → List Label → Type 0
HasOwn own labels = ((place : Place) × IsMaterial own place) ⊎ ((label : Label) × In label labels)

-- The smallest rectangle that holds the material and the labels, of which there are some.
pub record IsOwnBox (own : Layout) (labels : List Label) (box : Rect) : Type 0 where
  pub some : HasOwn own labels
  pub holds : HoldsOwn own labels box
  pub least : (area : Rect) → HoldsOwn own labels area → LiesWithin box area

-- It is the box of the material and the labels, or there are none.
abbrev pub OwnBoxIs : Layout → List Label → Option Rect → Type 0
OwnBoxIs own labels box = MatchOption box (HasOwn own labels → ⊥) (IsOwnBox own labels)

-- the smallest rectangle that goes round the box, where there is one, and the area
abbrev pub box_with : Option Rect → Rect → Rect
box_with None area = area
box_with (Some box) area = joined_rect box area
