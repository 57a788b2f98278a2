use Rattle.sim_records.proofs.Common.{arith, rules}
use Rattle.std.proofs.lemmas.List.{take_rest}
use Rattle.sim_records.proofs.DraftLaws.{adds_all, adds_rest}
use Rattle.sim_records.proofs.drafts.add_among.Goals as goal

pub loop-at-preserved : goal.loop-at-preserved
loop-at-preserved c last more =
    adds_rest c.args.fet.now c.args.terminals.now c.loop-at.at c.index-terminals-at.result _ c.args.draft.now c.loop-at.draft c.add_from.new.draft
    c.loop-at-test.true c.index-terminals-at.is (search (rules, take_rest)) c.loop-at.invariant c.in_ok-add_from.ensures last more

pub returns : goal.returns
returns c =
    adds_all c.args.fet.now c.args.terminals.now c.loop-at.at c.args.draft.now c.loop-at.draft (omega (arith, c.loop-at-test.false)) c.loop-at.invariant
