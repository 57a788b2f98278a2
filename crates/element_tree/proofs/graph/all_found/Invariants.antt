use Rattle.element_tree.proofs.Common.{◌≡◌, map, take, found_goals}
use Rattle.element_tree.proofs.graph.all_found.Given as goal

-- the records passed have their lists
abbrev pub invariant-loop-goals : goal.invariant-loop-goals
invariant-loop-goals l = l.children.items ≡ map found_goals (take l.goals-index l.graph)
