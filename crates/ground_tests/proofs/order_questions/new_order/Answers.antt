use Rattle.ground_tests.proofs.order_questions.new_order.Goals as goal

pub children_first-requires-clause-cells : goal.children_first-requires-clause-cells
children_first-requires-clause-cells c = c.are_cells.ensures.0 c.if-not-are_cells.false
