use Rattle.network_runs.proofs.SimulationLaws.{run_inside}
use Rattle.network_runs.proofs.simulations.run_lines.Goals as goal

pub returns-clause-inside : goal.returns-clause-inside
returns-clause-inside c =
    run_inside c.run_vectors.new.replies.items c.in_ok-lines_told.field-0.items (rw c.deref.ensures.value at c.in_ok-lines_told.ensures)
