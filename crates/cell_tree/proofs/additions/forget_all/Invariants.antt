use Rattle.cell_tree.proofs.TellLaws.{AreForgottenTo}
use Rattle.cell_tree.proofs.additions.forget_all.Given as goal

abbrev pub invariant-loop-cell : goal.invariant-loop-cell
invariant-loop-cell l = AreForgottenTo l.initial.cells l.cells l.first l.cell
