use Rattle.element_tree.proofs.Common.{◌∙◌, arith}
use Rattle.element_tree.proofs.Measures.{row_read, read_within}
use Rattle.element_tree.proofs.Rows.{uses_read, read_long, read_size, branches_more}
use Rattle.element_tree.proofs.branches.all_branches.Goals as goal

pub branches_of-requires-clause-long : goal.branches_of-requires-clause-long
branches_of-requires-clause-long c =
    let read = row_read _ _ _ c.loop-cell.cell-index _ _ _ _ c.requires.graph.is c.items-cell-items.ensures c.loop-cell-test.true c.items.ensures
    c.index-items-cell.is c.items-children.ensures in
    read_long _ _ _ _ _ _ _ (uses_read _ _ _ _ _ _ _ _ read c.index-exts-cell.is c.items-uses.ensures)

pub branches_of-requires-clause-within : goal.branches_of-requires-clause-within
branches_of-requires-clause-within c =
    let read = row_read _ _ _ c.loop-cell.cell-index _ _ _ _ c.requires.graph.is c.items-cell-items.ensures c.loop-cell-test.true c.items.ensures
    c.index-items-cell.is c.items-children.ensures in
    read_within _ _ _ _ _ _ _ read (c.requires.sizes.long ∙ c.requires.graph.is.long)

pub branches_of-requires-clause-size : goal.branches_of-requires-clause-size
branches_of-requires-clause-size c =
    let read = row_read _ _ _ c.loop-cell.cell-index _ _ _ _ c.requires.graph.is c.items-cell-items.ensures c.loop-cell-test.true c.items.ensures
    c.index-items-cell.is c.items-children.ensures in
    read_size _ _ _ _ _ 0 _ _ read c.requires.sizes

pub loop-cell-preserved : goal.loop-cell-preserved
loop-cell-preserved c =
    let read = row_read _ _ _ c.loop-cell.cell-index _ _ _ _ c.requires.graph.is c.items-cell-items.ensures c.loop-cell-test.true c.items.ensures
    c.index-items-cell.is c.items-children.ensures in
    let uses = uses_read _ _ _ _ _ _ _ _ read c.index-exts-cell.is c.items-uses.ensures in
    let one = read_size _ _ _ _ _ 0 _ _ read c.requires.sizes in
    let other = read_size _ _ _ _ _ 1 _ _ read c.requires.sizes in
    branches_more _ _ _ _ _ _ _ _ _ _ uses c.loop-cell.invariant (λ small. c.in_ok-branches-2.ensures (omega (arith, one, other)))
