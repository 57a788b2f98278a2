use Rattle.full_names.proofs.Common.{sym, ◌∙◌}
use Rattle.full_names.proofs.OrderLaws.{written_none, written_more, written_all}
use Rattle.full_names.proofs.orders.standings.Goals as goal

pub loop-number-init : goal.loop-number-init
loop-number-init c =
    let numbers = c.in_ok-numbers.numbers in
    written_none c.args.slots.now numbers.items (sym numbers.ok.0 ∙ c.in_ok-numbers.ensures.len)

pub loop-number-preserved : goal.loop-number-preserved
loop-number-preserved c = written_more c.args.slots.now c.loop-number.number c.loop-number.numbers.items c.loop-number-test.true
    (c.requires c.loop-number.number 0 c.loop-number-test.true) c.loop-number.invariant

pub returns : goal.returns
returns c = written_all c.args.slots.now c.loop-number.number c.loop-number.numbers.items c.loop-number-test.false c.loop-number.invariant
