use Rattle.steady_state.proofs.Common.{network_in}
use Rattle.steady_state.proofs.Resting.{touched_from}
use Rattle.steady_state.proofs.changes.mark_touched.Goals as goal

pub returns-clause-touched : goal.returns-clause-touched
returns-clause-touched c =
    touched_from (network_in c.args.net.now) c.mark_at.new.marks.inside c.mark_at-2.new.marks.inside c.mark_at-3.new.marks.inside c.args.node
    c.mark_at-2.ensures.grown c.mark_at-3.ensures.grown c.mark_at.ensures.ends c.mark_at-2.ensures.ends c.mark_at-3.ensures.ends
