use Rattle.geo_strips.proofs.CoverageLaws.{forks}
use Rattle.geo_strips.proofs.coverage.Coverage.+raise.Given as goal

abbrev pub decreases-raise : goal.decreases-raise
decreases-raise l = forks l.self.now
