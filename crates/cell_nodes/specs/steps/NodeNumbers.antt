-- Regions and tiles with the numbers of their nodes.
use Rattle.std.specs.Prelude.{◌≡◌, ◌⊎◌, ◌+◌, ◌<◌, ℕ, List, length, map, slice_index, slice_index_or}
use Rattle.tech_model.specs.FiniteSets.Lists.{In}
use Rattle.layout_model.specs.declared.region_tiles.RegionTile.{RegionTile}
use Rattle.tech_model.specs.declared.raw.RawTech.{RawTech}
use Rattle.layout_model.specs.Layouts.{Layout}
use Rattle.layout_model.specs.RegionTiles.{AreLayoutTiles, AreMeasured}
use Rattle.layout_model.specs.Technologies.{class_of}
use Rattle.measures.specs.declared.tables.MeasureRow.{MeasureRow}
use Rattle.measures.specs.FloodNodes.Renumbered.{AreRenumbered}
use Rattle.names.specs.declared.nodes.NamedNode.{NamedNode}

-- The regions of a list have the number, and each other region the number that it had.
pub record AreNumbered (regions : List ℕ) (number : ℕ) (old new : List ℕ) : Type 0 where
  pub here : (region : ℕ) → In region regions → slice_index new region ≡ number
  pub there : (region : ℕ) → region < length old → In region regions ⊎ (slice_index new region ≡ slice_index old region)

-- No node before the end has the region.
abbrev pub IsNodeless : List NamedNode → ℕ → ℕ → Type 0
IsNodeless nodes end region = (k : ℕ) (node : NamedNode) → k < end → In region (slice_index_or nodes k node).regions → ⊥

-- The number is that of a node before the end that has the region.
pub record IsNumberOf (nodes : List NamedNode) (end region number : ℕ) : Type 0 where
  pub below : number < end
  pub has : (node : NamedNode) → In region (slice_index_or nodes number node).regions

-- Each region has the number of a node before the end that has it, and one that none of them has is numbered past all nodes.
pub record AreNumberedUpTo (nodes : List NamedNode) (end count : ℕ) (numbers : List ℕ) : Type 0 where
  pub one_each : length numbers ≡ count
  pub each : (region : ℕ) → region < count
      → IsNumberOf nodes end region (slice_index numbers region) ⊎ (IsNodeless nodes end region × (slice_index numbers region ≡ length nodes))

-- Each region has the number of a node that has it, and one that no node has is numbered past all nodes.
abbrev pub AreNodeNumbers : List NamedNode → ℕ → List ℕ → Type 0
AreNodeNumbers nodes count numbers = AreNumberedUpTo nodes (length nodes) count numbers

-- for each tile the number of its region's node
abbrev pub numbers_at : List ℕ → List RegionTile → List ℕ
numbers_at numbers tiles = map (λ tile. slice_index numbers tile.region) tiles

-- The rows are the measures of the tiles of each node, and of those of none.
pub record AreNodeMeasures (raw : RawTech) (tiles : List RegionTile) (count : ℕ) (nodes : List NamedNode) (rows : List MeasureRow) : Type 0 where
  pub numbers : List ℕ
  pub groups : List RegionTile
  pub are_numbers : AreNodeNumbers nodes count numbers
  pub are_groups : AreRenumbered tiles (numbers_at numbers tiles) groups
  pub measured : (layout : Layout) → AreLayoutTiles layout groups
      → AreMeasured (map class_of raw.classes) layout groups (length nodes + 1) (map (λ row. row.pairs) rows)
