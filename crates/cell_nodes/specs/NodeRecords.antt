-- The nodes of a layout with labels, as a cell's record has them.
use Rattle.std.specs.Prelude.{◌≡◌, List, ◌∷◌, length, AllPairs, slice_index_or}
use Rattle.std.specs.Prelude.{ℕ, ◌<◌}
use Rattle.std.specs.declared.cmp.Ordering.TheVariants.{Less}
use Rattle.tech_model.specs.FiniteSets.Lists.{In, Lists}
use Rattle.tech_model.specs.FiniteSets.Least.{IsLeast}
use Rattle.tech_model.specs.declared.raw.Label.{Label}
use Rattle.tech_model.specs.declared.raw.RawTech.{RawTech}
use Rattle.ext_model.specs.declared.records.NodeRec.{NodeRec}
use Rattle.ext_model.specs.NameOrder.{name_cmp}
use Rattle.layout_model.specs.Places.{Place, IsBefore, IsNoLater}
use Rattle.layout_model.specs.Layouts.{Layout, IsMaterial}
use Rattle.layout_model.specs.Nodes.{AreMeasures}
use Rattle.layout_model.specs.Technologies.{capacitance, rules_of}
use Rattle.names.specs.NamedNodes.{AreOneNamedNode, IsNameOf}

-- This is the record of the node with this least place: its names in name order, its point and the type there, its measures
-- in each class, and its capacitance.
pub record IsNodeRecord (raw : RawTech) (layout : Layout) (labels : List Label) (least : Place) (node : NodeRec) : Type 0 where
  pub material : IsMaterial layout least
  pub is_least : IsLeast IsNoLater (AreOneNamedNode raw layout labels least) least
  pub names : Lists (IsNameOf raw layout labels least) (node.name ∷ node.aliases)
  pub names_in_order : AllPairs (λ a b. name_cmp a b ≡ Less) (node.name ∷ node.aliases)
  pub x : node.x ≡ least.square.x
  pub y : node.y ≡ least.square.y
  pub kind : node.kind ≡ (rules_of raw).word (layout least)
  pub measures : AreMeasures (rules_of raw).classes layout (AreOneNamedNode raw layout labels least) node.measures
  pub cap : node.cap ≡ capacitance (rules_of raw).classes node.measures

-- These are the records of the nodes of the layout, by their least places, and each place with material is in one of the nodes.
pub record AreNodeRecords (raw : RawTech) (layout : Layout) (labels : List Label) (nodes : List NodeRec) : Type 0 where
  pub leasts : List Place
  pub one_each : length leasts ≡ length nodes
  pub sound : (k : ℕ) (least : Place) (node : NodeRec) → k < length nodes
      → IsNodeRecord raw layout labels (slice_index_or leasts k least) (slice_index_or nodes k node)
  pub whole : (place : Place) → IsMaterial layout place → (least : Place) × In least leasts × AreOneNamedNode raw layout labels least place
  pub in_order : AllPairs IsBefore leasts
