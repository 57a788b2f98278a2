use Rattle.cell_tree.proofs.SpreadLaws.{IsSpreadArea, spread_both}
use Rattle.cell_tree.proofs.sizes.spread_area.Goals as goal
use Rattle.cell_tree.proofs.sizes.spread_area.Goals.{After-spread-ylo}

both : (c : After-spread-ylo)
    → IsSpreadArea c.args.grid.now c.args.area c.spread-xlo.result.0 c.spread-ylo.result.0 c.spread-xlo.result.1 c.spread-ylo.result.1
both c =
    spread_both c.args.grid.now c.args.area c.requires.grid c.requires.area
    (record {
      ways = c.way.ensures.way;
      way_low = c.way.ensures.low;
      way_high = c.way.ensures.high;
      first = c.spread-xlo.ensures.low;
      second = c.spread-xlo.ensures.high;
    })
    (record {
      ways = c.way-2.ensures.way;
      way_low = c.way-2.ensures.low;
      way_high = c.way-2.ensures.high;
      first = c.spread-ylo.ensures.low;
      second = c.spread-ylo.ensures.high;
    })

pub returns-clause-spread : goal.returns-clause-spread
returns-clause-spread c = (both (goal.at.returns-clause-spread c).After-spread-ylo).spread

pub returns-clause-reach : goal.returns-clause-reach
returns-clause-reach c = (both (goal.at.returns-clause-reach c).After-spread-ylo).reach
