use Rattle.full_names.proofs.Common.{◌≡◌, ◌++◌, places_of}
use Rattle.full_names.proofs.places.add_places.Given as goal

abbrev pub invariant-loop-own : goal.invariant-loop-own
invariant-loop-own l = l.places.items ≡ l.fn.places.items ++ places_of l.element l.own
