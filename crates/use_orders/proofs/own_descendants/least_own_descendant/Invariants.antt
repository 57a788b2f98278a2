use Rattle.use_orders.proofs.Common.{◌≡◌, ◌≤◌, length, lists_of, IsSearched, walk_state}
use Rattle.use_orders.proofs.own_descendants.least_own_descendant.Given as goal

abbrev pub invariant-places : goal.invariant-places
invariant-places g l = record {
  first : l.walk.first ≡ l.first;
  within : l.place ≤ length l.order;
  searched : IsSearched (g.G.UseGraph.children l.graph) (lists_of l.users.items) l.first l.order l.place (walk_state l.walk) l.least;
}

abbrev pub decreases-places : goal.decreases-places
decreases-places g l = l.place
