use Rattle.use_orders.proofs.Common.{lists_of}
use Rattle.use_orders.proofs.Users.{AreUsersBelow}
use Rattle.use_orders.proofs.own_descendants.users_of.Given as goal

abbrev pub invariant-parents : goal.invariant-parents
invariant-parents g l = AreUsersBelow (g.G.UseGraph.children l.graph) l.first l.parent (lists_of l.users.items)
