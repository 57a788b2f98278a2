use Rattle.use_orders.proofs.Common.{arith, sym, ◌∙◌, walk_state}
use Rattle.use_orders.proofs.NewOrders.{walked_none, walked_more, walked_all}
use Rattle.use_orders.proofs.new_order.walk_new.Goals as goal

pub cells-init : goal.cells-init
cells-init g c =
    let children = g.G.UseGraph.children c.args.graph.now in
    let made = c.in_ok-walk.ensures in
    record {
      first = made.first;
      walked = walked_none children c.args.first (walk_state c.in_ok-walk.walk) (made.rest children (sym c.cell_count-count.ensures)) (made.thorough children)
          made.empty made.acyclic;
    }

pub cells-preserved : goal.cells-preserved
cells-preserved g c = record {
  first = c.visit.ensures.first ∙ c.cells.invariant.first;
  walked = walked_more (g.G.UseGraph.children c.args.graph.now) c.args.first c.cells.cell (walk_state c.cells.walk) (walk_state c.visit.new.self)
      c.cells.auto.cell
      c.cells.invariant.walked (rw c.cells.invariant.first at c.in_ok-visit.ensures.visited);
}

pub returns : goal.returns
returns g c =
    let children = g.G.UseGraph.children c.args.graph.now in
    walked_all children c.args.first c.cells.cell (walk_state c.cells.walk) (omega (arith, c.cells.auto.cell-end)) c.cells.invariant.walked
