use Rattle.interact.proofs.Common.{forks}
use Rattle.interact.proofs.counts.Counts.+add.Given as goal

abbrev pub decreases-add : goal.decreases-add
decreases-add l = forks l.self.now
