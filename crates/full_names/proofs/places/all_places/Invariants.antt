use Rattle.full_names.proofs.Common.{count_at, ArePlacesBelow}
use Rattle.full_names.proofs.places.all_places.Given as goal

abbrev pub invariant-loop-number : goal.invariant-loop-number
invariant-loop-number l = ArePlacesBelow (count_at l.tree.elements l.records) l.number l.bases.items l.places.items
