use Rattle.element_index.proofs.Common.{◌≤◌, length}
use Rattle.element_index.proofs.forests.first_joined.Given as goal

abbrev pub invariant-loop-first : goal.invariant-loop-first
invariant-loop-first l = l.first ≤ length l.trees

abbrev pub decreases-loop-first : goal.decreases-loop-first
decreases-loop-first l = l.first
