use Rattle.extract_commands.proofs.OneCircuit.{passes_none, same_circuit, same_limit}
use Rattle.extract_commands.proofs.laws.cell_circuits_are_unique.Goals as goal

pub returns : goal.returns
returns c = record {
  circuits = same_circuit c.records_of_trees_are_unique.ensures c.flat_circuits_are_unique.ensures.circuits;
  limits = same_limit c.records_of_trees_are_unique.ensures c.flat_circuits_are_unique.ensures.faults;
  either = passes_none c.records_of_trees_are_unique.ensures c.flat_circuits_are_unique.ensures.either;
}
