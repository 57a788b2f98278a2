use Rattle.element_tree.proofs.Common.{suc, ◌≤◌, length, map, ◌∙◌, ap, arith, length-set, MOST_FLAT_ELEMENTS, value_at, size_from}
use Rattle.std.proofs.lemmas.List.Elements.{All-set}
use Rattle.element_tree.proofs.Measures.{row_read, read_within, read_measured}
use Rattle.element_tree.proofs.sizes.sizes.Goals as goal

pub size_of-requires-clause-within : goal.size_of-requires-clause-within
size_of-requires-clause-within c =
    let read = row_read _ _ _ c.loop-cell.cell-index _ _ _ _ c.requires.graph.is c.items-cell-items.ensures c.loop-cell-test.true c.items.ensures
    c.index-items-cell.is c.items-in-loop-cell.ensures in
    let long = ap length c.as_slice.ensures.value in
    read_within _ _ _ _ _ _ _ read (long ∙ c.loop-cell.invariant.long)

pub loop-cell-preserved : goal.loop-cell-preserved
loop-cell-preserved c =
    let read = row_read _ _ _ c.loop-cell.cell-index _ _ _ _ c.requires.graph.is c.items-cell-items.ensures c.loop-cell-test.true c.items.ensures
    c.index-items-cell.is c.items-in-loop-cell.ensures in
    let same = ap (λ z. size_from (map (value_at z) c.items-in-loop-cell.result.now)) c.as_slice.ensures.value in
    record {
      long = length-set c.loop-cell.sizes.items _ _ ∙ c.loop-cell.invariant.long;
      small = All-set (λ size. size ≤ suc MOST_FLAT_ELEMENTS) c.loop-cell.sizes.items _ _ (omega (arith, c.size_of.ensures)) c.loop-cell.invariant.small;
      measured = read_measured size_from _ _ _ _ _ _ _ _ read c.loop-cell.invariant.long c.loop-cell.invariant.measured (c.size_of.ensures ∙ same);
    }
