use Rattle.use_orders.proofs.Common.{◌≡◌, walk_state}
use Rattle.use_orders.proofs.NewOrders.{IsWalked}
use Rattle.use_orders.proofs.new_order.walk_new.Given as goal

abbrev pub invariant-cells : goal.invariant-cells
invariant-cells g l = record {
  first : l.walk.first ≡ l.first;
  walked : IsWalked (g.G.UseGraph.children l.graph) l.first l.cell (walk_state l.walk);
}
