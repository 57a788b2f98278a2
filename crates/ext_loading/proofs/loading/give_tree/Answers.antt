use Rattle.ext_loading.proofs.Common.{subst, children_in}
use Rattle.use_orders.specs.NewCells.{IsOrderOf}
use Rattle.use_orders.proofs.Acyclic.{order_leaves_no_cycle}
use Rattle.ext_loading.proofs.loading.give_tree.Goals as goal

pub returns-in-Acyclic-clause-given : goal.returns-in-Acyclic-clause-given
returns-in-Acyclic-clause-given c =
    let order = subst (IsOrderOf (children_in c.args.read) 0) c.in-Acyclic.is c.in_ok-children_first.ensures in
    (c.into_vec.ensures, λ cell own. order_leaves_no_cycle (children_in c.args.read) 0 c.in-Acyclic.field-0.items order cell own)
