use Rattle.full_names.proofs.KeyLaws.{AreKeysBelow}
use Rattle.full_names.proofs.keys.sorted_keys.Given as goal

abbrev pub invariant-loop-slot : goal.invariant-loop-slot
invariant-loop-slot l = AreKeysBelow l.tree.elements l.records l.places l.slot l.keys.items
