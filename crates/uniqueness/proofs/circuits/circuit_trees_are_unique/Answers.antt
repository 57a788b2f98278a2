use Rattle.uniqueness.proofs.CircuitTrees.{not_both, same_read, same_refusal}
use Rattle.uniqueness.proofs.circuits.circuit_trees_are_unique.Goals as goal

pub returns : goal.returns
returns c = record {
  records = same_read c.reading_is_one.ensures;
  faults = same_refusal c.reading_is_one.ensures;
  either = not_both c.reading_is_one.ensures;
}
