use Rattle.vector_runs.proofs.SplitRuns.{lines_keep, phase_keeps, settled_rests, split_run}
use Rattle.vector_runs.proofs.laws.shown_values_are_steady.Goals as goal

pub returns-clause-steady : goal.returns-clause-steady
returns-clause-steady c = settled_rests

pub returns-clause-inputs : goal.returns-clause-inputs
returns-clause-inputs c = λ budget old new told phase v within input.
    phase_keeps old.net v within input budget old.states new.states phase.done phase.steps phase.is_phase

pub returns-clause-switches : goal.returns-clause-switches
returns-clause-switches c = lines_keep

pub returns-clause-split : goal.returns-clause-split
returns-clause-split c = split_run
