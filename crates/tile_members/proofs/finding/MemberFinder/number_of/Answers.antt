use Rattle.tile_members.proofs.Common.{sym, subst, IfOk-weaker, seen, MembersHaveWholeTiles, IsOfMember, HasTile}
use Rattle.element_paths.specs.LibraryTrees.NamedCells.{named_tree_at}
use Rattle.tile_members.proofs.FinderLaws.{finder_entered}
use Rattle.tile_members.proofs.FoundTiles.{known_tile}
use Rattle.tile_members.proofs.TileCorners.{tile_corner}
use Rattle.tile_members.proofs.finding.MemberFinder.number_of.Goals as goal

pub node_of-requires-clause-corner : goal.node_of-requires-clause-corner
node_of-requires-clause-corner g c =
    (tile_corner c.args.library.now c.lawful.ensures c.args.self.now.cell.0 c.requires.members.there c.args.tile.now c.requires.tile).own

pub add_node-requires-clause-finder : goal.add_node-requires-clause-finder
add_node-requires-clause-finder g c =
    finder_entered c.args.library.now c.args.self.now c.node_of.new.self c.requires.finder c.node_of.ensures.cells c.node_of.ensures.kept

pub returns-in-Some-clause-finder : goal.returns-in-Some-clause-finder
returns-in-Some-clause-finder g c =
    finder_entered c.args.library.now c.args.self.now c.node_of.new.self c.requires.finder c.node_of.ensures.cells c.node_of.ensures.kept

pub returns-in-Some-clause-has : goal.returns-in-Some-clause-has
returns-in-Some-clause-has g c =
    let library = c.args.library.now in
    let self = c.args.self.now in
    let tile = c.args.tile.now in
    let whole = subst MembersHaveWholeTiles c.tech.ensures c.members_have_whole_tiles.ensures in
    let corner = tile_corner library c.lawful.ensures self.cell.0 c.requires.members.there tile c.requires.tile in
    let entered = finder_entered library self c.node_of.new.self c.requires.finder c.node_of.ensures.cells c.node_of.ensures.kept in
    known_tile library c.lawful.ensures whole self.names.records.now self.cell.0 tile c.node_of.new.self self.known.names.items c.in_ok-node.node
    c.in-Some.number c.requires.members c.requires.tile corner c.in_ok-node.ensures.node
    (entered.known.each (tile.element, c.in_ok-node.node) c.in-Some.number (sym c.in-Some.ensures))

pub returns-in-None-clause-has : goal.returns-in-None-clause-has
returns-in-None-clause-has g c =
    let library = c.args.library.now in
    let self = c.args.self.now in
    let tile = c.args.tile.now in
    let names = c.add_node.new.self.known.names.items in
    let whole = subst MembersHaveWholeTiles c.tech.ensures c.members_have_whole_tiles.ensures in
    let corner = tile_corner library c.lawful.ensures self.cell.0 c.requires.members.there tile c.requires.tile in
    IfOk-weaker c.add_node.result (IsOfMember (seen library) self.cell.0 c.node_of.new.self names (tile.element, c.in_ok-node.node))
    (λ number. HasTile library.tech (named_tree_at (seen library) self.cell.0) names number tile)
    (λ number of.
    known_tile library c.lawful.ensures whole self.names.records.now self.cell.0 tile c.node_of.new.self names c.in_ok-node.node number
    c.requires.members c.requires.tile corner c.in_ok-node.ensures.node of) c.add_node.ensures.is
