use Rattle.use_orders.proofs.Common.{arith, lists_of}
use Rattle.use_orders.proofs.Users.{length-lists_of, users_more}
use Rattle.use_orders.proofs.own_descendants.users_of.Goals as goal

pub parents-preserved : goal.parents-preserved
parents-preserved g c =
    let next = c.add_uses.new.users.items in
    let now = c.parents.users.items in
    let added = c.in_ok-add_uses.ensures in
    users_more (g.G.UseGraph.children c.args.graph.now) c.args.first c.parents.parent (lists_of now) (lists_of next) c.parents.invariant
    (omega (arith, added.fits, length-lists_of now, length-lists_of next)) added.grown added.there added.back
