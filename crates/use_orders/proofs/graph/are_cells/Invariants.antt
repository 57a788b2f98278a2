use Rattle.use_orders.proofs.Common.{ℕ, ◌<◌, length, UsesCell}
use Rattle.use_orders.proofs.graph.are_cells.Given as goal

abbrev pub invariant-parents : goal.invariant-parents
invariant-parents g l =
    (parent child : ℕ) → parent < l.parent → UsesCell (g.G.UseGraph.children l.graph) parent child → child < length (g.G.UseGraph.children l.graph)
