use Rattle.cell_nodes.proofs.Common.{◌<◌, ℕ, List, length, sym, subst, All, NodeRec, MeasureRow, NamedNode, AreNamedNodes, AreMade, AreRecordsOf}
use Rattle.std.specs.Prelude.{slice_index_or}
use Rattle.cell_paint.specs.Paints.{layout_of}
use Rattle.cell_nodes.specs.RegionNodes.{AreNodesOfRegions}
use Rattle.cell_nodes.proofs.GroupLaws.{regions_below}
use Rattle.cell_nodes.proofs.RecordLaws.{tiles_typed, are_made, region_records}
use Rattle.cell_nodes.proofs.nodes.cell_regions.Goals as goal

pub name_nodes-requires-clause-kinds : goal.name_nodes-requires-clause-kinds
name_nodes-requires-clause-kinds c =
    let told = c.in_ok-regions.ensures in
    tiles_typed c.args.tech.now (layout_of c.args.paint.now) c.in_ok-regions.regions.tiles told.regions.are_tiles told.types

pub node_numbers-requires : goal.node_numbers-requires
node_numbers-requires c =
    let regions = c.in_ok-regions.regions in
    let layout = layout_of c.args.paint.now in
    subst (λ (v : List NamedNode). (k : ℕ) (node : NamedNode) → k < length v → All (λ region. region < regions.count) (slice_index_or v k node).regions)
    (sym c.items-nodes.ensures)
    (regions_below c.args.tech.now layout c.args.labels.now regions.tiles regions.count c.in_ok-named.named.nodes regions.sound
    (c.in_ok-named.ensures.nodes layout c.in_ok-regions.ensures.regions))

pub records_of-requires : goal.records_of-requires
records_of-requires c =
    let raw = c.args.tech.now in
    let layout = layout_of c.args.paint.now in
    let regions = c.in_ok-regions.regions in
    let told = c.in_ok-regions.ensures in
    let nodes = c.items-nodes.result.now in
    let named : AreNamedNodes raw layout c.args.labels.now regions.tiles nodes =
    subst (λ (v : List NamedNode). AreNamedNodes raw layout c.args.labels.now regions.tiles v) (sym c.items-nodes.ensures)
    (c.in_ok-named.ensures.nodes layout told.regions) in
    subst (λ (v : List MeasureRow). AreMade raw nodes v) (sym c.items.ensures)
    (are_made raw layout c.args.labels.now regions.tiles regions.count nodes c.in_ok-measures.measures.rows told.well_formed told.regions.are_tiles
    regions.sound named c.in_ok-measures.ensures told.types told.near)

pub returns-clause-nodes : goal.returns-clause-nodes
returns-clause-nodes c =
    let raw = c.args.tech.now in
    let layout = layout_of c.args.paint.now in
    let labels = c.args.labels.now in
    let regions = c.in_ok-regions.regions in
    let told = c.in_ok-regions.ensures in
    let nodes = c.items-nodes.result.now in
    let numbers = c.in_ok-numbers.numbers.items in
    let rows = c.in_ok-measures.measures.rows in
    let made = c.in_ok-records.records.items in
    let named : AreNamedNodes raw layout labels regions.tiles nodes = subst (λ (v : List NamedNode). AreNamedNodes raw layout labels regions.tiles v)
    (sym c.items-nodes.ensures) (c.in_ok-named.ensures.nodes layout told.regions) in
    let records : AreRecordsOf raw nodes rows made = subst (λ (v : List MeasureRow). AreRecordsOf raw nodes v made) c.items.ensures
    c.in_ok-records.ensures in
    subst (λ (v : List NodeRec). AreNodesOfRegions raw layout labels regions.tiles regions.count v numbers) (sym c.of.ensures)
    (region_records raw layout labels regions.tiles regions.count nodes rows told.well_formed told.regions.are_tiles regions.sound named
    c.in_ok-measures.ensures numbers made told.regions c.in_ok-numbers.ensures records)
