use Rattle.ext_reading.proofs.Common.{◌≡◌, [], length, sides_from}
use Rattle.ext_reading.proofs.fet_forms.sides_in.Given as goal

-- what the words that are left add is what all of them give
abbrev pub invariant-loop-node : goal.invariant-loop-node
invariant-loop-node l = sides_from l.sides.items l.rest ≡ sides_from [] l.fn.words

abbrev pub decreases-loop-node : goal.decreases-loop-node
decreases-loop-node l = length l.rest
