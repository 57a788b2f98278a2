use Rattle.meeting_sums.proofs.Common.{◌≡◌, pos, cond, to_z, of_z, arith, w64, ints}
use Rattle.meeting_sums.proofs.AmountLaws.{both_added}
use Rattle.meeting_sums.proofs.amounts.push_both_if.Goals as goal

pub returns : goal.returns
returns c =
    let value = c.args.value in
    let here : to_z w64 (of_z w64 value) ≡ value = omega (arith, ints, c.ranges.value.sfits) in
    both_added c.args.groups.0 c.args.groups.1 (cond c.args.counts value (pos 0)) c.args.amounts.now.items c.push_if.new.amounts.items
    c.push_if-2.new.amounts.items (rw here at c.in_ok-push_if.ensures) (rw here at c.in_ok-push_if-2.ensures)
