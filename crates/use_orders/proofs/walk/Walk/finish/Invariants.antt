use Rattle.use_orders.proofs.Common.{◌≡◌, walk_state, IsLater, work_left}
use Rattle.use_orders.proofs.walk.Walk.finish.Given as goal

abbrev pub invariant-open : goal.invariant-open
invariant-open g l = record {
  first : l.self.first ≡ l.fn.self.first;
  later : IsLater (g.G.UseGraph.children l.graph) l.fn.self.first (walk_state l.fn.self) (walk_state l.self);
}

abbrev pub decreases-open : goal.decreases-open
decreases-open g l = work_left (g.G.UseGraph.children l.graph) (walk_state l.self)
