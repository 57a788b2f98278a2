use Rattle.plain_records.proofs.Common.{arith}
use Rattle.plain_records.proofs.RowLaws.{rows_more}
use Rattle.plain_records.proofs.rows.merges_in.Goals as goal

pub loop-row-preserved : goal.loop-row-preserved
loop-row-preserved c =
    let more = rows_more c.args.rows.now c.loop-row.row-index c.row-item.result c.loop-row-test.true c.row-item.is in
    omega (arith, more, c.loop-row.invariant, c.min.ensures, c.min-count.ensures)
