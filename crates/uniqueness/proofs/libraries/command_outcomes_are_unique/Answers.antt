use Rattle.uniqueness.proofs.CommandFaults.{one_refusal}
use Rattle.uniqueness.proofs.CommandOutcomes.{one_outcome}
use Rattle.uniqueness.proofs.libraries.command_outcomes_are_unique.Goals as goal

pub returns : goal.returns
returns g c = record { faults = one_refusal; outcomes = one_outcome _ }
