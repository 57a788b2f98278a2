use Rattle.run_plane.proofs.Common.{◌≤ℤ◌, ◌<ℤ◌, ◌-ℤ◌, pos, take, drop, rules, All, Row}
use Rattle.run_plane.proofs.BandLaws.{band_found}
use Rattle.run_plane.proofs.changes.band_of.Goals as goal

pub returns : goal.returns
returns c =
    let rows = c.args.rows.now in
    let span = c.args.span.now in
    let from = c.rows_up_to.result in
    let until = c.rows_up_to-2.result in
    let below : All (λ (row : Row). row.ylo ≤ℤ (span.start -ℤ pos 1)) (take from rows) = search rules in
    let from_on : All (λ (row : Row). (span.start -ℤ pos 1) <ℤ row.ylo) (drop from rows) = search rules in
    let up_to : All (λ (row : Row). row.ylo ≤ℤ span.end) (take until rows) = search rules in
    let above : All (λ (row : Row). span.end <ℤ row.ylo) (drop until rows) = search rules in
    band_found rows span from until c.requires.in_order c.rows_up_to.ensures.within c.rows_up_to-2.ensures.within below from_on up_to above
