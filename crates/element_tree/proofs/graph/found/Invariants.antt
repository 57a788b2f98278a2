use Rattle.element_tree.proofs.Common.{◌≡◌, take, found_goals}
use Rattle.element_tree.proofs.graph.found.Given as goal

-- those among the goals passed have been taken
abbrev pub invariant-loop-goal : goal.invariant-loop-goal
invariant-loop-goal l = l.children.items ≡ found_goals (take l.goal-index l.goals)
