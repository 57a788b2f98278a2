use Rattle.use_orders.proofs.Acyclic.{not_cyclic, order_from_walk}
use Rattle.use_orders.proofs.library_order.below.Goals as goal

pub returns : goal.returns
returns g c =
    let children = g.G.UseGraph.children c.args.graph.now in
    let walk = c.in_ok-walk.walk in
    let calm = not_cyclic children c.args.root c.visit.new.self.is_cyclic c.requires.acyclic
    (rw (c.in_ok-walk.ensures.first, c.in_ok-walk.ensures.acyclic) at c.in_ok-visit.ensures.visited.cyclic) in
    rw c.into_order.ensures
    (order_from_walk children c.args.root walk.first walk.order.items c.visit.new.self.order.items c.in_ok-walk.ensures.first c.in_ok-walk.ensures.empty
    (c.in_ok-visit.ensures.visited.visits calm).1)
