-- Numbers in groups, and the node of a group.
use Rattle.std.specs.Prelude.{◌≡◌, ◌≢◌, ◌<◌, ℕ, List, [], ◌∷◌, ◌++◌, length, AllPairs, Option, Some, None, slice_index, slice_index_or, Vec}
use Rattle.std.specs.declared.alloc.Global.{Global}
use Rattle.std.specs.declared.cmp.Ordering.TheVariants.{Less}
use Rattle.geo_core.specs.FiniteSets.Lists.{In}
use Rattle.geo_core.specs.Areas.{corner_of}
use Rattle.tech_model.specs.declared.raw.Label.{Label}
use Rattle.tech_model.specs.declared.raw.RawTech.{RawTech}
use Rattle.layout_model.specs.declared.region_tiles.RegionTile.{RegionTile}
use Rattle.ext_model.specs.NameOrder.{name_cmp}
use Rattle.names.specs.declared.nodes.NamedNode.{NamedNode}
use Rattle.names.specs.steps.CountedLabels.{text_at}
use Rattle.names.specs.steps.FirstTiles.{class_of}
use Rattle.names.specs.GeneratedNames.{generated_name}

-- The numbers below the count that the keys put into a group, in order.
pub record IsGroup (keys : ℕ → Option ℕ) (count group : ℕ) (members : List ℕ) : Type 0 where
  pub sound : (k : ℕ) → In k members → (k < count) × (keys k ≡ Some group)
  pub whole : (k : ℕ) → k < count → keys k ≡ Some group → In k members
  pub rise : AllPairs ◌<◌ members

-- the key at an index of the list
abbrev pub key_at : List (Option ℕ) → ℕ → Option ℕ
key_at keys index = slice_index_or keys index None

-- There is a list for each group, with the numbers below n that the keys put into it.
pub record AreGroupsBy (keys : ℕ → Option ℕ) (n count : ℕ) (groups : List (Vec ℕ Global)) : Type 0 where
  pub one_each : length groups ≡ count
  pub each : (group : ℕ) (members : Vec ℕ Global) → group < count → IsGroup keys n group (slice_index_or groups group members).items

-- the same by a list of keys
abbrev pub AreGroups : List (Option ℕ) → ℕ → List (Vec ℕ Global) → Type 0
AreGroups keys count groups = AreGroupsBy (key_at keys) (length keys) count groups

-- the class of a region, as a key
abbrev pub region_key : List ℕ → ℕ → Option ℕ
region_key classes region = Some (slice_index classes region)

-- One number was added at the end of a group, and the other groups are as before.
pub record AddsMember (old new : List (Vec ℕ Global)) (group member : ℕ) : Type 0 where
  pub so_many : length new ≡ length old
  pub added : (members : Vec ℕ Global) → (slice_index_or new group members).items ≡ (slice_index_or old group members).items ++ member ∷ []
  pub others : (other : ℕ) (members : Vec ℕ Global) → other < length old → other ≢ group → slice_index_or new other members ≡ slice_index_or old other members

-- the class of a number, where there is one
abbrev pub class_in : List ℕ → Option ℕ → Option ℕ
class_in classes None = None
class_in classes (Some region) = Some (slice_index classes region)

-- These are the texts of the labels at the indices, each once, in name order.
pub record AreNamesAt (labels : List Label) (indices : List ℕ) (names : List (List ℕ)) : Type 0 where
  pub sound : (name : List ℕ) → In name names → (index : ℕ) × In index indices × (text_at labels index ≡ name)
  pub whole : (index : ℕ) → In index indices → In (text_at labels index) names
  pub in_order : AllPairs (λ a b. name_cmp a b ≡ Less) names

-- These are the names of the node with this first tile that the labels at the indices name: the generated one where there is none.
abbrev pub AreNodeNames : RawTech → List Label → RegionTile → List ℕ → List (List ℕ) → Type 0
AreNodeNames raw labels tile [] names = names ≡ generated_name raw tile.kind.0 (corner_of tile.area) ∷ []
AreNodeNames raw labels tile (index ∷ indices) names = AreNamesAt labels (index ∷ indices) names

-- the class of the region that a label names
abbrev pub label_key : List ℕ → List (Option ℕ) → ℕ → Option ℕ
label_key classes named index = class_in classes (key_at named index)

-- The node has this first tile, these regions, and the names that the labels at the indices give.
pub record IsNodeOn (raw : RawTech) (labels : List Label) (tile : RegionTile) (regions indices : List ℕ) (node : NamedNode) : Type 0 where
  pub plane : node.plane ≡ tile.plane
  pub least : node.least ≡ corner_of tile.area
  pub kind : node.kind ≡ tile.kind
  pub regions_are : node.regions ≡ regions
  pub names_are : AreNodeNames raw labels tile indices node.names

-- The same of the class of the tile: its regions, and the labels that name them.
pub record IsNodeOf (raw : RawTech) (labels : List Label) (classes : List ℕ) (named : List (Option ℕ)) (tile : RegionTile) (node : NamedNode) : Type 0 where
  pub regions : List ℕ
  pub indices : List ℕ
  pub are_regions : IsGroup (region_key classes) (length classes) (class_of classes tile) regions
  pub are_indices : IsGroup (label_key classes named) (length named) (class_of classes tile) indices
  pub node_is : IsNodeOn raw labels tile regions indices node

-- There is a node for each first tile.
pub record AreNodesOf (raw : RawTech) (labels : List Label) (classes : List ℕ) (named : List (Option ℕ)) (firsts : List RegionTile) (nodes : List NamedNode) :
    Type 0 where
  pub one_each : length nodes ≡ length firsts
  pub each : (k : ℕ) (tile : RegionTile) (node : NamedNode) → k < length firsts
      → IsNodeOf raw labels classes named (slice_index_or firsts k tile) (slice_index_or nodes k node)

-- There is a node for each first tile, with the regions and the labels of its class.
pub record AreNodesOn (raw : RawTech) (labels : List Label) (firsts : List RegionTile) (classes : List ℕ) (regions indices : List (Vec ℕ Global))
    (nodes : List NamedNode)
    : Type 0 where
  pub one_each : length nodes ≡ length firsts
  pub each : (k : ℕ) (tile : RegionTile) (node : NamedNode) (d e : Vec ℕ Global) → k < length firsts
      → IsNodeOn raw labels (slice_index_or firsts k tile) (slice_index_or regions (class_of classes (slice_index_or firsts k tile)) d).items
      (slice_index_or indices (class_of classes (slice_index_or firsts k tile)) e).items (slice_index_or nodes k node)
