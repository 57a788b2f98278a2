use Rattle.use_orders.proofs.Common.{arith}
use Rattle.use_orders.proofs.UnderWay.{next_is_used}
use Rattle.use_orders.proofs.walk.Walk.follow.Goals as goal

pub meet-requires : goal.meet-requires
meet-requires g c =
    let children = g.G.UseGraph.children c.args.graph.now in
    let child = c.requires.cells c.args.at.cell _ (next_is_used children c.args.at c.requires.use_left) in
    rw c.child-child.ensures (omega (arith, child, c.requires.fits))
