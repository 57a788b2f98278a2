use Rattle.circuit_laws.proofs.Writable.{flat_transistors_have_letter_and_lengths}
use Rattle.circuit_laws.proofs.circuits.flat_transistors_have_letter_and_lengths.Goals as goal

pub returns : goal.returns
returns c = flat_transistors_have_letter_and_lengths
