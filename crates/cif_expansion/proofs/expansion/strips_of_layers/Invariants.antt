use Rattle.cif_expansion.proofs.StripLaws.{AreMadeUpTo}
use Rattle.cif_expansion.proofs.expansion.strips_of_layers.Given as goal

abbrev pub invariant-loop-place : goal.invariant-loop-place
invariant-loop-place l = AreMadeUpTo l.names l.initial.boxes.items l.boxes.items l.place l.layers.items
