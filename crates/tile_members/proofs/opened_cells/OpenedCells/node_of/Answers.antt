use Rattle.tile_members.proofs.Common.{IfOk-weaker, HasOpenNode, IsNumberAt}
use Rattle.tile_members.proofs.NodesFound.{opened_node, opened_there}
use Rattle.tile_members.proofs.opened_cells.OpenedCells.node_of.Goals as goal

pub node_at-requires-clause-searchable : goal.node_at-requires-clause-searchable
node_at-requires-clause-searchable g c = (c.enter.ensures.cells c.args.tile.now.of.0 c.at-opened.result.now c.at-opened.ensures).searchable

pub node_at-requires-clause-there : goal.node_at-requires-clause-there
node_at-requires-clause-there g c =
    opened_there c.args.library.now c.args.tile.now c.at-opened.result.now c.own_corner.result c.requires.corner
    (c.enter.ensures.cells c.args.tile.now.of.0 c.at-opened.result.now c.at-opened.ensures) c.own_corner.ensures

pub returns-clause-node : goal.returns-clause-node
returns-clause-node g c =
    let library = c.args.library.now in
    let tile = c.args.tile.now in
    IfOk-weaker c.node_at.result (IsNumberAt c.at-opened.result.now (record { plane = tile.plane; square = c.own_corner.result }))
    (HasOpenNode library c.enter.new.self tile)
    (λ number at.
    opened_node library c.enter.new.self tile c.at-opened.result.now c.own_corner.result number c.requires.corner c.enter.ensures.cells
    c.at-opened.ensures c.own_corner.ensures at) c.node_at.ensures
