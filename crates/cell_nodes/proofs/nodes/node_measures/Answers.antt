-- The groups are the tiles with other numbers, so they are as sound and have the same contacts.
use Rattle.cell_nodes.proofs.Common.{◌+◌, List, length, map, sym, subst, All, RegionTile, Layout, AreLayoutTiles, class_of, IsSoundTile, numbers_at}
use Rattle.std.proofs.lemmas.Result.{IfOk-weaker}
use Rattle.layout_model.specs.RegionTiles.{AreMeasured}
use Rattle.measures.specs.FloodNodes.Renumbered.{AreRenumbered}
use Rattle.cell_nodes.proofs.GroupLaws.{groups_sound}
use Rattle.cell_nodes.proofs.nodes.node_measures.Goals as goal

pub measure_tiles-requires-clause-sound : goal.measure_tiles-requires-clause-sound
measure_tiles-requires-clause-sound c =
    let regions = c.args.regions.now in
    let numbers = c.args.numbers.now in
    let groups = c.in_ok-groups.groups.items in
    let renumbered : AreRenumbered regions.tiles (numbers_at numbers regions.tiles) groups =
    subst (λ (v : List RegionTile). AreRenumbered v (numbers_at numbers v) groups) c.items.ensures c.in_ok-groups.ensures in
    subst (λ (v : List RegionTile). All (IsSoundTile (length c.args.nodes.now + 1)) v) (sym c.as_slice.ensures.value)
    (groups_sound regions.tiles groups regions.count c.args.nodes.now numbers regions.sound c.requires renumbered)

pub returns : goal.returns
returns c =
    let raw = c.args.tech.now in
    let nodes = c.args.nodes.now in
    let regions = c.args.regions.now in
    let numbers = c.args.numbers.now in
    let groups = c.in_ok-groups.groups.items in
    let renumbered : AreRenumbered regions.tiles (numbers_at numbers regions.tiles) groups =
    subst (λ (v : List RegionTile). AreRenumbered v (numbers_at numbers v) groups) c.items.ensures c.in_ok-groups.ensures in
    IfOk-weaker c.measure_tiles.result _ _
    (λ made is. record {
      numbers = numbers;
      groups = groups;
      are_numbers = c.requires;
      are_groups = renumbered;
      measured = subst (λ (v : List RegionTile). (layout : Layout) → AreLayoutTiles layout v
          → AreMeasured (map class_of raw.classes) layout v (length nodes + 1) (map (λ row. row.pairs) made.rows)) c.as_slice.ensures.value is;
    })
    c.measure_tiles.ensures
