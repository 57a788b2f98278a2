use Rattle.geo_strips.proofs.Common.{length}
use Rattle.geo_strips.proofs.coverage.+uncovered.Given as goal

abbrev pub decreases-uncovered : goal.decreases-uncovered
decreases-uncovered l = length l.sides.now
