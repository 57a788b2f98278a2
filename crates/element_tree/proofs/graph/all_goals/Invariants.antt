use Rattle.element_tree.proofs.Common.{◌≡◌, map, take, goals_in}
use Rattle.element_tree.proofs.graph.all_goals.Given as goal

-- the records passed have their lists
abbrev pub invariant-loop-ext : goal.invariant-loop-ext
invariant-loop-ext l = l.graph.items ≡ map (goals_in l.index) (take l.ext-index l.exts)
