use Rattle.vector_runs.proofs.Common.{refl, watched}
use Rattle.vector_runs.proofs.WatchedRuns.{phase_taken, show_taken}
use Rattle.vector_runs.proofs.watching.WatchedRun.take_counting_line.Goals as goal

pub returns-in-Phase-clause-taken : goal.returns-in-Phase-clause-taken
returns-in-Phase-clause-taken c =
    phase_taken c.args.budget (watched c.args.net.now c.args.self.now) _ c.args.line.now c.take_phase.result.done c.take_phase.result.steps c.in-Phase.is
    c.take_phase.ensures.ran refl

pub returns-in-Show-clause-taken : goal.returns-in-Show-clause-taken
returns-in-Show-clause-taken c = show_taken c.args.budget (watched c.args.net.now c.args.self.now) c.args.line.now c.in-Show.field-0 c.in-Show.is
