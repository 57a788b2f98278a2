use Rattle.circuit_laws.proofs.Writable.{flat_transistor_has_letter_and_lengths}
use Rattle.circuit_laws.proofs.circuits.flat_transistor_has_letter_and_lengths.Goals as goal

pub returns : goal.returns
returns c = flat_transistor_has_letter_and_lengths
