use Rattle.use_orders.proofs.Acyclic.{order_leaves_no_cycle, acyclic_by_order, own_by_new}
use Rattle.use_orders.proofs.laws.new_cells_law.Goals as goal

pub returns : goal.returns
returns c = record {
  order_or_cycle = λ children first order o cell own. order_leaves_no_cycle children first order o cell own;
  acyclic_below = λ children order root o. acyclic_by_order children order root o;
  by_new_cells = λ children first old cell new own. own_by_new children first old cell new own;
}
