use Rattle.plain_records.proofs.ExpansionLaws.{expand_more}
use Rattle.plain_records.proofs.expansion.expanded.Goals as goal

pub loop-cell-preserved : goal.loop-cell-preserved
loop-cell-preserved c =
    expand_more c.args.merged c.args.exts.now c.args.order.now c.loop-cell.records.items c.loop-cell.cell-index c.index-exts-cell.result
    c.in_ok-records.field-0 c.requires.exts c.requires.within c.loop-cell-test.true c.loop-cell.invariant c.index-exts-cell.is c.in_ok-records.ensures
