use Rattle.std.proofs.Common.{◌≡◌, take}
use Rattle.std.specs.Prelude.{◌+ℤ◌}
use Rattle.finite_sets.specs.Total.{sum_on}
use Rattle.stack_runs.proofs.summaries.Sums.add_measures.Given as goal

abbrev pub invariant-loop-measure : goal.invariant-loop-measure
invariant-loop-measure l = record {
  area : l.self.area ≡ l.fn.self.area +ℤ sum_on (λ measure. measure.0) (take l.measure-index l.measures);
  perimeter : l.self.perimeter ≡ l.fn.self.perimeter +ℤ sum_on (λ measure. measure.1) (take l.measure-index l.measures);
}
