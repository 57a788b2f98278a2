use Rattle.cell_library.proofs.Common.{◌<◌, length, arith, seen}
use Rattle.cell_library.proofs.PartSets.{visited_parts, visited_sets}
use Rattle.cell_library.proofs.VisitLaws.{top_can_be_visited}
use Rattle.cell_library.proofs.visiting.visit_cell.Goals as goal

pub visit_spot-requires-clause-spot : goal.visit_spot-requires-clause-spot
visit_spot-requires-clause-spot c =
    let there : c.args.cell.0 < length c.args.library.now.tree.cells = omega (arith, c.requires.cell, c.lawful.ensures.so_many) in
    top_can_be_visited c.args.library.now.tree c.args.cell.0 c.lawful.ensures.tree there

pub returns-clause-tiles : goal.returns-clause-tiles
returns-clause-tiles c =
    visited_parts (seen c.args.library.now) c.args.cell.0 c.args.area c.new-tiles.result.items c.visit_spot.new.tiles.items c.new-tiles.ensures.items
    c.in_ok-visit_spot.ensures.tiles

pub returns-clause-sets : goal.returns-clause-sets
returns-clause-sets c =
    visited_sets c.args.library.now.tech (seen c.args.library.now) c.args.cell.0 c.args.area c.new-tiles.result.items c.visit_spot.new.tiles.items
    c.new-tiles.ensures.items c.in_ok-visit_spot.ensures.tiles
