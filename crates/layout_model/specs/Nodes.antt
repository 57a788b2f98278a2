-- The nodes of a layout, as a list.
use Rattle.std.specs.Prelude.{◌≡◌, ℕ, ℤ, List, [], ◌∷◌}
use Rattle.geo_core.specs.FiniteSets.Lists.{In}
use Rattle.geo_core.specs.FiniteSets.Least.{IsLeast}
use Rattle.geo_core.specs.FiniteSets.Order.{IsInOrder}
use Rattle.layout_model.specs.Places.{Place, IsBefore, IsNoLater}
use Rattle.layout_model.specs.Layouts.{Layout, IsMaterial}
use Rattle.layout_model.specs.Links.{AreOneNode}
use Rattle.layout_model.specs.Measures.{IsArea, IsPerimeter}
use Rattle.layout_model.specs.Technologies.{Class, Technology}

-- A node as it is written: its least place, the type there, and its area and perimeter in each class.
pub record Node : Type 0 where
  pub least : Place
  pub kind : ℕ
  pub measures : List (ℤ × ℤ)

-- The pairs are the area and the perimeter of the set in each class in order.
abbrev pub AreMeasures : List Class → Layout → (Place → Type 0) → List (ℤ × ℤ) → Type 0
AreMeasures [] layout Within [] = Unit {0}
AreMeasures [] layout Within (measure ∷ measures) = ⊥
AreMeasures (class ∷ classes) layout Within [] = ⊥
AreMeasures (class ∷ classes) layout Within (measure ∷ measures) =
    IsArea class.contains layout Within measure.0
    × IsPerimeter class.contains layout Within measure.1
    × AreMeasures classes layout Within measures

-- This is the node of the material at its least place.
pub record IsNode (technology : Technology) (layout : Layout) (node : Node) : Type 0 where
  pub material : IsMaterial layout node.least
  pub least : IsLeast IsNoLater (AreOneNode technology.connects layout node.least) node.least
  pub kind : node.kind ≡ layout node.least
  pub measures : AreMeasures technology.classes layout (AreOneNode technology.connects layout node.least) node.measures

-- Each node stands before the next by its least place.
abbrev pub AreInOrder : List Node → Type 0
AreInOrder nodes = IsInOrder (λ node next. IsBefore node.least next.least) nodes

-- These are the nodes of the layout, by their least places: each is a node, and each place with material is in one of them.
pub record AreNodes (technology : Technology) (layout : Layout) (nodes : List Node) : Type 0 where
  pub sound : (node : Node) → In node nodes → IsNode technology layout node
  pub whole : (place : Place) → IsMaterial layout place → (node : Node) × In node nodes × AreOneNode technology.connects layout node.least place
  pub in_order : AreInOrder nodes
