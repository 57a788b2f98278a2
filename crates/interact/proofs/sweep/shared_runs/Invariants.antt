use Rattle.interact.proofs.SweepLaws.{IsUnderWay}
use Rattle.interact.proofs.sweep.shared_runs.Given as goal

abbrev pub invariant-loop-edge : goal.invariant-loop-edge
invariant-loop-edge l = IsUnderWay l.rects l.edge-items l.edge-index l.sweep
