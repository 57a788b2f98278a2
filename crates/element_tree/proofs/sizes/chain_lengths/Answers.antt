use Rattle.element_tree.proofs.Common.{length, map, ◌∙◌, ap, arith, length-set, greatest, value_at, chain_from}
use Rattle.element_tree.proofs.Measures.{row_read, read_within, read_greatest, read_measured}
use Rattle.element_tree.proofs.sizes.chain_lengths.Goals as goal

pub greatest_of-greatest-requires : goal.greatest_of-greatest-requires
greatest_of-greatest-requires c =
    let read = row_read _ _ _ c.loop-cell.cell-index _ _ _ _ c.requires.graph.is c.items-cell-items.ensures c.loop-cell-test.true c.items.ensures
    c.index-items-cell.is c.items-in-loop-cell.ensures in
    let long = ap length c.as_slice.ensures.value in
    record { within = read_within _ _ _ _ _ _ _ read (long ∙ c.loop-cell.invariant.long) }

pub overflow_add-greatest : goal.overflow_add-greatest
overflow_add-greatest c =
    let read = row_read _ _ _ c.loop-cell.cell-index _ _ _ _ c.requires.graph.is c.items-cell-items.ensures c.loop-cell-test.true c.items.ensures
    c.index-items-cell.is c.items-in-loop-cell.ensures in
    let below = read_greatest _ _ _ _ _ _ _ read c.loop-cell.invariant.measured in
    let same = ap (λ z. greatest (map (value_at z) c.items-in-loop-cell.result.now)) c.as_slice.ensures.value in
    omega (arith, below, same, c.greatest_of-greatest.ensures)

pub loop-cell-preserved : goal.loop-cell-preserved
loop-cell-preserved c =
    let read = row_read _ _ _ c.loop-cell.cell-index _ _ _ _ c.requires.graph.is c.items-cell-items.ensures c.loop-cell-test.true c.items.ensures
    c.index-items-cell.is c.items-in-loop-cell.ensures in
    let same = ap (λ z. greatest (map (value_at z) c.items-in-loop-cell.result.now)) c.as_slice.ensures.value in
    record {
      long = length-set c.loop-cell.lengths.items _ _ ∙ c.loop-cell.invariant.long;
      measured = read_measured chain_from _ _ _ _ _ _ _ _ read c.loop-cell.invariant.long c.loop-cell.invariant.measured
          (omega (arith, same, c.greatest_of-greatest.ensures));
    }
