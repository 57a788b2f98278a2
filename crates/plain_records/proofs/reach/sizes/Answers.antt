use Rattle.plain_records.proofs.Common.{suc, ◌≤◌, length, map, ◌∙◌, sym, ap, arith, length-map, MOST_FLAT_ELEMENTS, value_at, size_from, plains}
use Rattle.plain_records.proofs.Common.{thin, spread, spread_graph, ArrayExt, plain}
use Rattle.std.proofs.lemmas.List.{length-set}
use Rattle.std.proofs.lemmas.List.Elements.{All-set}
use Rattle.flat_limits.proofs.ElementTree.Measures.{row_read, read_within, read_measured}
use Rattle.plain_records.proofs.GraphLaws.{length-spreads}
use Rattle.plain_records.proofs.SizeLaws.{spread_read, read_paired, measured_all}
use Rattle.plain_records.proofs.reach.sizes.Goals as goal

pub size_of-requires-clause-long : goal.size_of-requires-clause-long
size_of-requires-clause-long c =
    let read = row_read _ _ _ c.loop-cell.cell-index _ _ _ _ c.requires.graph.is c.items-cell-items.ensures c.loop-cell-test.true c.items.ensures
    c.index-items-cell.is c.items-children.ensures in
    read_paired c.args.exts.now _ _ _ _ _ c.index-exts-cell.result c.items-in-loop-cell.result.now read c.index-exts-cell.is
    (c.items-in-loop-cell.ensures ∙ ap (λ (z : ArrayExt). z.uses) (sym c.index-exts-cell.is))

pub size_of-requires-clause-within : goal.size_of-requires-clause-within
size_of-requires-clause-within c =
    let read = row_read _ _ _ c.loop-cell.cell-index _ _ _ _ c.requires.graph.is c.items-cell-items.ensures c.loop-cell-test.true c.items.ensures
    c.index-items-cell.is c.items-children.ensures in
    let long = ap length c.as_slice.ensures.value in
    read_within _ _ _ _ _ _ _ read (long ∙ c.loop-cell.invariant.long ∙ sym (length-map c.args.exts.now thin))

pub loop-cell-preserved : goal.loop-cell-preserved
loop-cell-preserved c =
    let exts = c.args.exts.now in
    let read = row_read _ _ _ c.loop-cell.cell-index _ _ _ _ c.requires.graph.is c.items-cell-items.ensures c.loop-cell-test.true c.items.ensures
    c.index-items-cell.is c.items-children.ensures in
    let whole = spread_read exts c.requires.records c.requires.graph.root c.args.graph.now c.loop-cell.cell-index _ _ c.index-exts-cell.result
    c.items-in-loop-cell.result.now read c.index-exts-cell.is
    (c.items-in-loop-cell.ensures ∙ ap (λ (z : ArrayExt). z.uses) (sym c.index-exts-cell.is)) in
    let row = spread c.items-in-loop-cell.result.now c.items-children.result.now in
    let same = ap (λ z. size_from (map (value_at z) row)) c.as_slice.ensures.value in
    record {
      long = length-set c.loop-cell.sizes.items _ _ ∙ c.loop-cell.invariant.long;
      small = All-set (λ size. size ≤ suc MOST_FLAT_ELEMENTS) c.loop-cell.sizes.items _ _ (omega (arith, c.size_of.ensures)) c.loop-cell.invariant.small;
      measured = read_measured size_from (plains exts) c.requires.graph.root (spread_graph exts c.args.graph.now) _ _ row _ _ whole
          (c.loop-cell.invariant.long ∙ sym (length-map exts plain)) c.loop-cell.invariant.measured (c.size_of.ensures ∙ same);
    }

pub returns : goal.returns
returns c =
    let exts = c.args.exts.now in
    let graph = c.args.graph.now in
    let lists = c.requires.graph.is.long ∙ length-map exts thin in
    record {
      long = c.loop-cell.invariant.long ∙ sym (length-spreads exts graph.children lists);
      measured = measured_all size_from _ _ graph.order c.loop-cell.cell-index (omega (arith, c.loop-cell-test.false, ap length c.items-cell-items.ensures))
          c.loop-cell.invariant.measured;
    }
