use Rattle.cell_tree.proofs.Common.{subst, states, children_of}
use Rattle.use_orders.specs.NewCells.{IsOrderOf}
use Rattle.cell_tree.proofs.GraphLaws.{lawful_children}
use Rattle.cell_tree.proofs.OrderLaws.{new_order_of, first_below}
use Rattle.cell_tree.proofs.arrivals.new_order.Goals as goal

pub children_first-requires-clause-cells : goal.children_first-requires-clause-cells
children_first-requires-clause-cells c = lawful_children (states c.args.cells.now) c.requires.lawful

pub returns-in-Acyclic-clause-order : goal.returns-in-Acyclic-clause-order
returns-in-Acyclic-clause-order c =
    new_order_of (states c.args.cells.now) c.args.first c.requires.old c.in-Acyclic.order.items
    (subst (IsOrderOf (children_of (states c.args.cells.now)) c.args.first) c.in-Acyclic.is c.in-Ok.ensures)

pub returns-in-Cyclic-clause-refused : goal.returns-in-Cyclic-clause-refused
returns-in-Cyclic-clause-refused c =
    first_below (states c.args.cells.now) c.args.first c.requires.old c.requires.acyclic c.in-Cyclic.cell
    (subst (IsOrderOf (children_of (states c.args.cells.now)) c.args.first) c.in-Cyclic.is c.in-Ok.ensures)
