use Rattle.circuit_laws.proofs.SameCircuits.{circuits_are_unique}
use Rattle.circuit_laws.proofs.circuits.circuits_are_unique.Goals as goal

pub returns : goal.returns
returns c = circuits_are_unique
