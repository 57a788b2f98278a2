use Rattle.uniqueness.proofs.FlatCircuits.{no_circuit, no_fault, same_fault, same_flat}
use Rattle.uniqueness.proofs.circuits.flat_circuits_are_unique.Goals as goal

pub returns : goal.returns
returns c = record {
  circuits = λ exts others root agree. same_flat exts others root agree c.circuits_are_unique.ensures;
  faults = same_fault;
  either = no_fault;
  other_way = no_circuit;
}
