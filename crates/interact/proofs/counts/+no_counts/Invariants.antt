use Rattle.interact.proofs.Common.{length}
use Rattle.interact.proofs.counts.+no_counts.Given as goal

-- there are fewer sides on either side of the middle one
abbrev pub decreases-no_counts : goal.decreases-no_counts
decreases-no_counts l = length l.sides.now
