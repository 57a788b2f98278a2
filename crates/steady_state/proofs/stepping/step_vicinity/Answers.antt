use Rattle.steady_state.proofs.Common.{refl, network_in}
use Rattle.steady_state.proofs.Vicinity.{apart, closed_again, late, late_inside, part_of}
use Rattle.steady_state.proofs.stepping.step_vicinity.Goals as goal

pub step_over-requires-clause-part : goal.step_over-requires-clause-part
step_over-requires-clause-part c = part_of c.args.marks.now c.explore.new.marks c.explore.ensures.adds (network_in c.args.net.now) c.args.state.now
    c.requires.closed c.explore.ensures.marks c.explore.ensures.left c.explore.ensures.right _ refl c.requires.state
    c.marked_behind.ensures.late c.marked_behind.ensures.all

pub step_over-requires-clause-gathered : goal.step_over-requires-clause-gathered
step_over-requires-clause-gathered c = λ v ins.
    let q = c.marked_behind.ensures.late v ins in let at = q.3 in rw at at (c.explore.ensures.gathered q.0 q.1 q.2)

pub returns-clause-closed : goal.returns-clause-closed
returns-clause-closed c = closed_again c.args.marks.now c.explore.new.marks c.explore.ensures.adds (network_in c.args.net.now) c.args.state.now
    c.requires.closed c.explore.ensures.marks c.explore.ensures.left c.explore.ensures.right

pub returns-clause-steady : goal.returns-clause-steady
returns-clause-steady c = λ v ins out. c.step_over.ensures.steady v
    (c.marked_behind.ensures.all v (late c.args.marks.now c.explore.new.marks c.explore.ensures.adds v ins out))

pub returns-clause-kept : goal.returns-clause-kept
returns-clause-kept c = λ v back. c.step_over.ensures.kept v (λ ins.
    let q = c.marked_behind.ensures.late v ins in
    apart c.args.marks.now c.explore.new.marks c.explore.ensures.adds v q
    (back (late_inside c.args.marks.now c.explore.new.marks c.explore.ensures.adds v q)))
