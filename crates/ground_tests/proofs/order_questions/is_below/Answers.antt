use Rattle.use_orders.specs.steps.Searches.{lists_of}
use Rattle.use_orders.proofs.Acyclic.{acyclic_by_order}
use Rattle.ground_tests.proofs.order_questions.is_below.Goals as goal

pub children_first-requires-clause-cells : goal.children_first-requires-clause-cells
children_first-requires-clause-cells c = c.are_cells.ensures.0 c.if-not-are_cells.false

pub below-requires-clause-cells : goal.below-requires-clause-cells
below-requires-clause-cells c = c.are_cells.ensures.0 c.if-not-are_cells.false

-- the graph has an order
pub below-requires-clause-acyclic : goal.below-requires-clause-acyclic
below-requires-clause-acyclic c =
    acyclic_by_order (lists_of c.args.graph.now.lists.now) c.in-Acyclic.field-0.items c.args.root (rw c.in-Acyclic.is at c.in_ok-children_first.ensures)
