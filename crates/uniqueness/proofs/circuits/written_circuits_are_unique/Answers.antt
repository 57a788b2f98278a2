use Rattle.uniqueness.proofs.WrittenCircuits.{same_written}
use Rattle.uniqueness.proofs.circuits.written_circuits_are_unique.Goals as goal

pub returns : goal.returns
returns c = same_written
