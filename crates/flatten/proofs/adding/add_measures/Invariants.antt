use Rattle.flatten.proofs.Common.{◌≡◌, ℕ, ◌<◌, ◌≤◌, length, measure_of}
use Rattle.flatten.specs.steps.Amounts.{AddsMeasure}
use Rattle.flatten.proofs.adding.add_measures.Given as goal

abbrev pub invariant-loop-class : goal.invariant-loop-class
invariant-loop-class l = record {
  long : length l.sums ≡ length l.fn.sums;
  done : (class : ℕ) → class < l.class → AddsMeasure (measure_of class l.fn.sums) (measure_of class l.measures) (measure_of class l.sums);
  rest : (class : ℕ) → l.class ≤ class → measure_of class l.sums ≡ measure_of class l.fn.sums;
}
