use Rattle.element_index.proofs.Common.{◌≡◌, ◌++◌, take, rects_of}
use Rattle.element_index.proofs.forests.collect.Given as goal

-- the rectangles of the trees so far
abbrev pub invariant-loop-tree : goal.invariant-loop-tree
invariant-loop-tree l = l.rects.items ≡ l.initial.rects.items ++ rects_of (take l.tree-index l.trees)
