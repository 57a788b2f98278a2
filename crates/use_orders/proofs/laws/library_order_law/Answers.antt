use Rattle.use_orders.proofs.Visiting.{library_order-lists, library_order-behind, library_order-last, Visits-unique}
use Rattle.use_orders.proofs.laws.library_order_law.Goals as goal
use Rattle.use_orders.proofs.Common.{[], ◌∷◌}

pub returns : goal.returns
returns c = record {
  lists = λ children root order v. library_order-lists children root order v;
  children_first = λ children root order v. library_order-behind children root order v;
  root_last = λ children root order v. library_order-last children root order v;
  unique = λ children root one other v w. Visits-unique children [] (root ∷ []) one other v w;
}
