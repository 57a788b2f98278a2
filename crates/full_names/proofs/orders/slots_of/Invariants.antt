use Rattle.full_names.proofs.Common.{◌≡◌, map, take}
use Rattle.full_names.proofs.orders.slots_of.Given as goal

abbrev pub invariant-loop-key : goal.invariant-loop-key
invariant-loop-key l = l.slots.items ≡ map (λ key. key.slot) (take l.key-index l.keys)
