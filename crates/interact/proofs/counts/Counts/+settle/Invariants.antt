use Rattle.interact.proofs.Common.{forks}
use Rattle.interact.proofs.counts.Counts.+settle.Given as goal

abbrev pub decreases-settle : goal.decreases-settle
decreases-settle l = forks l.self.now
