use Rattle.vector_runs.proofs.RestingRuns.{phase_touches_none}
use Rattle.vector_runs.proofs.progress.Progress.take_phase.Goals as goal

pub returns-clause-rested : goal.returns-clause-rested
returns-clause-rested c =
    phase_touches_none c.args.net.now c.settle-settled.new.net c.args.budget c.args.self.now.states.items c.settle-settled.new.self.states.items
    c.settle-settled.result.done c.settle-settled.result.steps c.touched_by_none.result c.settle-settled.ensures.phase c.settle-settled.ensures.network
    c.touched_by_none.ensures
