use Rattle.cell_tree.specs.Arrivals.{AreForgotten}
use Rattle.cell_tree.proofs.additions.forget.Given as goal

abbrev pub invariant-loop-k : goal.invariant-loop-k
invariant-loop-k l = AreForgotten l.initial.cells l.cells l.cell l.k
