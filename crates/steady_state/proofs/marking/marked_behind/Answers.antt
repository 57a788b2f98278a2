use Rattle.steady_state.proofs.Common.{drop, ap}
use Rattle.steady_state.proofs.Rounds.{slice_from}
use Rattle.steady_state.proofs.Vicinity.{among_late, late_among}
use Rattle.steady_state.proofs.marking.marked_behind.Goals as goal

pub returns-clause-late : goal.returns-clause-late
returns-clause-late c = rw (slice_from c.nodes.result.now c.args.before)
    (among_late c.args.marks.now c.args.before (drop c.args.before c.nodes.result.now) (ap (drop c.args.before) c.nodes.ensures))

pub returns-clause-all : goal.returns-clause-all
returns-clause-all c = rw (slice_from c.nodes.result.now c.args.before)
    (late_among c.args.marks.now c.args.before (drop c.args.before c.nodes.result.now) (ap (drop c.args.before) c.nodes.ensures))
