use Rattle.element_tree.proofs.Common.{◌≡◌, take, cells_of}
use Rattle.element_tree.proofs.graph.index_of.Given as goal

-- the cells of the records passed are in the index
abbrev pub invariant-loop-ext : goal.invariant-loop-ext
invariant-loop-ext l = l.index ≡ cells_of (take l.ext-index l.exts)
