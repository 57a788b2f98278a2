use Rattle.cell_tree.proofs.TellLaws.{AreTold}
use Rattle.cell_tree.proofs.additions.tell.Given as goal

abbrev pub invariant-loop-k : goal.invariant-loop-k
invariant-loop-k l = AreTold l.initial.cells l.cells l.cell l.k
