use Rattle.ext_reading.proofs.Common.{◌≡◌, length, measures_from, measures_in}
use Rattle.ext_reading.proofs.ranges.measures_in.Given as goal

-- what the numbers that are left add is what all of them give
abbrev pub invariant-loop-area : goal.invariant-loop-area
invariant-loop-area l = measures_from l.measures.items l.left ≡ measures_in l.numerals

abbrev pub decreases-loop-area : goal.decreases-loop-area
decreases-loop-area l = length l.left
