-- The nodes of a layout with labels, and their names.
use Rattle.std.specs.Prelude.{◌≡◌, ◌⊎◌, ◌↔◌, ◌<◌, ℕ, IsTrue, List, AllPairs}
use Rattle.std.specs.declared.cmp.Ordering.TheVariants.{Less}
use Rattle.geo_core.specs.FiniteSets.Chain.{Chain}
use Rattle.geo_core.specs.FiniteSets.Lists.{In, Lists}
use Rattle.geo_core.specs.FiniteSets.Least.{IsLeast}
use Rattle.tech_model.specs.declared.raw.Label.{Label}
use Rattle.tech_model.specs.declared.raw.RawTech.{RawTech}
use Rattle.tech_model.specs.Types.{connects}
use Rattle.layout_model.specs.Places.{Place, IsBefore, IsNoLater}
use Rattle.layout_model.specs.Layouts.{Layout, IsMaterial}
use Rattle.layout_model.specs.Links.{AreLinked}
use Rattle.layout_model.specs.RegionTiles.{IsInRegion}
use Rattle.layout_model.specs.declared.region_tiles.RegionTile.{RegionTile}
use Rattle.ext_model.specs.NodeNames.{is_global}
use Rattle.ext_model.specs.NameOrder.{name_cmp}
use Rattle.names.specs.declared.nodes.NamedNode.{NamedNode}
use Rattle.names.specs.Attachments.{HasText}
use Rattle.names.specs.GeneratedNames.{generated_name}

-- Labels of one global name attach to both places.
pub record ShareGlobal (raw : RawTech) (layout : Layout) (labels : List Label) (a b : Place) : Type 0 where
  pub text : List ℕ
  pub global : IsTrue (is_global text)
  pub here : HasText raw layout labels text a
  pub there : HasText raw layout labels text b

-- Links and global names join the places to one node.
abbrev pub AreOneNamedNode : RawTech → Layout → List Label → Place → Place → Type 0
AreOneNamedNode raw layout labels = Chain (λ a b. AreLinked (connects raw) layout a b ⊎ ShareGlobal raw layout labels a b)

-- The name is a text of a place that has the fact.
pub record IsTextIn (raw : RawTech) (layout : Layout) (labels : List Label) (Within : Place → Type 0) (name : List ℕ) : Type 0 where
  pub place : Place
  pub inside : Within place
  pub text : HasText raw layout labels name place

-- The name is one of the node with this least place: a text of one of its places, and where there is none the generated one.
abbrev pub IsNameOf : RawTech → Layout → List Label → Place → List ℕ → Type 0
IsNameOf raw layout labels least name =
    IsTextIn raw layout labels (AreOneNamedNode raw layout labels least) name
    ⊎ (((text : List ℕ) → IsTextIn raw layout labels (AreOneNamedNode raw layout labels least) text → ⊥)
    × (name ≡ generated_name raw (layout least) least.square))

-- the least place of the node, as it has it
abbrev pub least_of : NamedNode → Place
least_of node = record { plane = node.plane; square = node.least }

-- This is the node at its least place: its type there, its regions and its names.
pub record IsNamedNode (raw : RawTech) (layout : Layout) (labels : List Label) (tiles : List RegionTile) (node : NamedNode) : Type 0 where
  pub material : IsMaterial layout (least_of node)
  pub least : IsLeast IsNoLater (AreOneNamedNode raw layout labels (least_of node)) (least_of node)
  pub kind : node.kind.0 ≡ layout (least_of node)
  -- each region has a place, and its places are of the node exactly where the region is listed
  pub regions : (region : ℕ) (place : Place) → IsInRegion tiles region place
      → In region node.regions ↔ AreOneNamedNode raw layout labels (least_of node) place
  pub used : (region : ℕ) → In region node.regions → (place : Place) × IsInRegion tiles region place
  pub regions_rise : AllPairs ◌<◌ node.regions
  pub names : Lists (IsNameOf raw layout labels (least_of node)) node.names
  pub names_in_order : AllPairs (λ a b. name_cmp a b ≡ Less) node.names

-- These are the nodes, by their least places, and each place with material is in one of them.
pub record AreNamedNodes (raw : RawTech) (layout : Layout) (labels : List Label) (tiles : List RegionTile) (nodes : List NamedNode) : Type 0 where
  pub sound : (node : NamedNode) → In node nodes → IsNamedNode raw layout labels tiles node
  pub whole : (place : Place) → IsMaterial layout place → (node : NamedNode) × In node nodes × AreOneNamedNode raw layout labels (least_of node) place
  pub in_order : AllPairs (λ a b. IsBefore (least_of a) (least_of b)) nodes
