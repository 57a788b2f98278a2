use Rattle.std.proofs.Common.{arith}
use Rattle.merge_rows.proofs.PushedRows.{last_tested, no_last}
use Rattle.merge_rows.proofs.Tests.{with_value}
use Rattle.merge_rows.proofs.rows.goes_on_with_last.Goals as goal

pub returns-in-Some : goal.returns-in-Some
returns-in-Some c =
    let item = c.in-Some.ensures.item in
    with_value c.goes_on.result (last_tested c.args.rows.now c.in-Some.last.now c.args.merge.now item.3.0 item.1) c.goes_on.ensures

pub returns-in-None : goal.returns-in-None
returns-in-None c =
    let item = c.in-None.ensures.item in
    (λ yes. cc, λ goes. absurd (no_last c.args.rows.now c.args.merge.now (omega (arith, item.3)) goes))
