use Rattle.use_orders.proofs.Common.{ℕ, ◌<◌, length, slice_index, used_by}
use Rattle.use_orders.proofs.graph.uses_cells.Given as goal

abbrev pub invariant-uses : goal.invariant-uses
invariant-uses g l =
    (k : ℕ) → k < l.place → slice_index (used_by (g.G.UseGraph.children l.graph) l.parent) k < length (g.G.UseGraph.children l.graph)
