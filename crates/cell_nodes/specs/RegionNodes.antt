-- The nodes that regions make.
use Rattle.std.specs.Prelude.{◌≡◌, ◌<◌, ℕ, List, length, slice_index, slice_index_or, All}
use Rattle.tech_model.specs.declared.raw.Label.{Label}
use Rattle.tech_model.specs.declared.raw.RawTech.{RawTech}
use Rattle.ext_model.specs.declared.records.NodeRec.{NodeRec}
use Rattle.layout_model.specs.declared.region_tiles.RegionTile.{RegionTile}
use Rattle.layout_model.specs.Layouts.{Layout}
use Rattle.layout_model.specs.Places.{Place}
use Rattle.layout_model.specs.RegionTiles.{IsInRegion}
use Rattle.names.specs.NamedNodes.{AreOneNamedNode}
use Rattle.cell_nodes.specs.NodeRecords.{AreNodeRecords}

-- These are the records of the nodes of the layout, and for each region the number of the record of the node that has its places.
pub record AreNodesOfRegions (raw : RawTech) (layout : Layout) (labels : List Label) (tiles : List RegionTile) (count : ℕ) (nodes : List NodeRec)
    (numbers : List ℕ) : Type 0 where
  pub records : AreNodeRecords raw layout labels nodes
  pub one_each : length numbers ≡ count
  pub numbered : All (λ number. number < length nodes) numbers
  pub places : (region : ℕ) (place least : Place) → IsInRegion tiles region place
      → AreOneNamedNode raw layout labels (slice_index_or records.leasts (slice_index numbers region) least) place
