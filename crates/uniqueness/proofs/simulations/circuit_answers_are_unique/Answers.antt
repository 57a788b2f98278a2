use Rattle.uniqueness.proofs.CircuitAnswers.{same_circuit}
use Rattle.uniqueness.proofs.simulations.circuit_answers_are_unique.Goals as goal

pub returns : goal.returns
returns c = same_circuit (record {
  networks = c.networks_are_unique.ensures;
  files = c.vector_files_are_unique.ensures;
  faults = c.fault_grades_are_unique.ensures.faults;
  grades = c.fault_grades_are_unique.ensures.grades;
  answers = c.network_answers_are_unique.ensures;
})
