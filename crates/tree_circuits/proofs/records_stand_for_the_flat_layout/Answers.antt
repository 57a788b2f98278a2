use Rattle.tree_circuits.proofs.TreeCircuits.{circuit_is_flat}
use Rattle.tree_circuits.proofs.records_stand_for_the_flat_layout.Goals as goal

pub returns : goal.returns
returns c = circuit_is_flat
