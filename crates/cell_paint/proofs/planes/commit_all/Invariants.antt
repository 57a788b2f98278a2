-- The planes below the index have their pieces set.
use Rattle.cell_paint.proofs.PlaneLaws.{IsCommittedUpTo}
use Rattle.cell_paint.proofs.planes.commit_all.Given as goal

abbrev pub invariant-loop-index : goal.invariant-loop-index
invariant-loop-index l = IsCommittedUpTo l.index l.initial.planes l.planes l.changes
