use Rattle.use_orders.proofs.Lesser.{lesser_kept, lesser_more, lesser_source, lesser_all}
use Rattle.use_orders.proofs.own_descendants.least_with.Goals as goal

pub cells-preserved : goal.cells-preserved
cells-preserved c =
    let inv = c.cells.invariant in
    let made = c.lesser.ensures in
    record {
      kept = lesser_kept c.args.known c.cells.least c.lesser.result inv.kept made.kept;
      below = lesser_more c.cells.least c.args.cells.now c.cells.cell-index c.lesser.result made.within made.kept inv.below;
      source = lesser_source c.args.known c.cells.least c.args.cells.now c.cells.cell-index c.lesser.result c.cells-test.true made.source inv.source;
    }

pub returns-clause-below : goal.returns-clause-below
returns-clause-below c = lesser_all c.cells.least c.args.cells.now c.cells.cell-index c.cells-test.false c.cells.invariant.below
