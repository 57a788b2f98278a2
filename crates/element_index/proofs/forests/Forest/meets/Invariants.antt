use Rattle.element_index.proofs.Common.{take, MissesAll, rects_of}
use Rattle.element_index.proofs.forests.Forest.meets.Given as goal

-- the rectangles of the trees so far miss the area
abbrev pub invariant-loop-tree : goal.invariant-loop-tree
invariant-loop-tree l = MissesAll (rects_of (take l.tree-index l.tree-items)) l.area
