use Rattle.cell_tree.proofs.Common.{states}
use Rattle.cell_tree.proofs.StepLaws.{AreFit}
use Rattle.cell_tree.proofs.trials.resize.Given as goal

abbrev pub invariant-loop-k : goal.invariant-loop-k
invariant-loop-k l = AreFit l.dimension (states l.cells) l.cell l.order l.initial.next l.next l.k

abbrev pub decreases-loop-k : goal.decreases-loop-k
decreases-loop-k l = l.k
