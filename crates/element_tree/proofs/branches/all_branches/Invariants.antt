use Rattle.element_tree.proofs.Common.{take, AreBranches}
use Rattle.element_tree.proofs.branches.all_branches.Given as goal

abbrev pub invariant-loop-cell : goal.invariant-loop-cell
invariant-loop-cell l = AreBranches l.exts l.graph.children (take l.cell-index l.graph.order) l.sizes l.branches.items
