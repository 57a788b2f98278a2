use Rattle.std.proofs.Common.{◌≡◌, take}
use Rattle.finite_sets.specs.Total.{sum_on}
use Rattle.stack_runs.specs.Summaries.{area_of, perimeter_of}
use Rattle.stack_runs.proofs.summaries.sums_of.Given as goal

abbrev pub invariant-loop-node : goal.invariant-loop-node
invariant-loop-node l = record {
  area : l.sums.area ≡ sum_on area_of (take l.node-index l.nodes);
  perimeter : l.sums.perimeter ≡ sum_on perimeter_of (take l.node-index l.nodes);
}
