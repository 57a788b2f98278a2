use Rattle.use_orders.proofs.NewOrders.{in_order, must_cycle}
use Rattle.use_orders.proofs.new_order.children_first.Goals as goal

pub returns-then-not-walk : goal.returns-then-not-walk
returns-then-not-walk g c =
    rw c.into_order.ensures
    (in_order (g.G.UseGraph.children c.args.graph.now) c.args.first c.in_ok-walk.walk.is_cyclic c.in_ok-walk.walk.order.items c.in_ok-walk.ensures.order
    c.in_ok-walk.ensures.behind c.if-not-walk.true)

pub unreachable-requires : goal.unreachable-requires
unreachable-requires g c =
    must_cycle (g.G.UseGraph.children c.args.graph.now) c.args.first c.in_ok-walk.walk.is_cyclic c.in_ok-walk.ensures.cyclic c.if-not-walk.false
    (rw c.in-None.is at c.in_ok-cell.ensures)
