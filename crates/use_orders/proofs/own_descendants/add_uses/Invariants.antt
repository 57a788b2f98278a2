use Rattle.use_orders.proofs.Common.{lists_of}
use Rattle.use_orders.proofs.Users.{AreAdded}
use Rattle.use_orders.proofs.own_descendants.add_uses.Given as goal

abbrev pub invariant-uses : goal.invariant-uses
invariant-uses g l = AreAdded (g.G.UseGraph.children l.graph) l.first l.parent l.place (lists_of l.fn.users.items) (lists_of l.users.items)
