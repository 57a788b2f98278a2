use Rattle.full_names.proofs.Common.{◌∷◌, take}
use Rattle.full_names.proofs.OwnNameLaws.{AreAdded}
use Rattle.full_names.proofs.own_names.add_names.Given as goal

abbrev pub invariant-loop-alias : goal.invariant-loop-alias
invariant-loop-alias l = AreAdded l.global l.number (l.node.name ∷ take l.alias-index l.alias-items) l.fn.names.items l.names.items
