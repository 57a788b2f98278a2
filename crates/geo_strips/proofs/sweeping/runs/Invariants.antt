use Rattle.geo_strips.proofs.SweepLaws.{IsUnderWay, lowest}
use Rattle.geo_strips.proofs.sweeping.runs.Given as goal

abbrev pub invariant-loop-event : goal.invariant-loop-event
invariant-loop-event l = IsUnderWay l.rects l.event-items l.event-index lowest l.sweep
