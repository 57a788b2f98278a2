use Rattle.ext_reading.proofs.Common.{◌≡◌, [], length, class_values_from}
use Rattle.ext_reading.proofs.ranges.all_class_values_in.Given as goal

-- what the numbers that are left add is what all of them give
abbrev pub invariant-loop-left : goal.invariant-loop-left
invariant-loop-left l = class_values_from l.values.items l.left ≡ class_values_from [] l.numerals

abbrev pub decreases-loop-left : goal.decreases-loop-left
decreases-loop-left l = length l.left
