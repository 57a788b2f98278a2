use Rattle.names.proofs.Common.{◌≤◌, length}
use Rattle.std.proofs.Common.{◌-◌}
use Rattle.names.specs.steps.TakenLabels.{IsLeastTaken}
use Rattle.names.proofs.TakingLaws.{IsSeen}
use Rattle.names.proofs.attaching.least_taken.Given as goal

abbrev pub invariant-loop-at : goal.invariant-loop-at
invariant-loop-at l = record {
  within : l.at ≤ length l.tiles;
  least : IsLeastTaken l.tech l.label (IsSeen l.tiles l.at) l.found;
}

abbrev pub decreases-loop-at : goal.decreases-loop-at
decreases-loop-at l = length l.tiles - l.at
