use Rattle.fault_grade.proofs.Common.{ℕ, ◌<◌, ◌≤◌, get_or, VecLine}
use Rattle.fault_grade.proofs.detecting.are_rising.Given as goal

abbrev pub invariant-loop-number : goal.invariant-loop-number
invariant-loop-number l = record {
  rising : (i j : ℕ) (d : ℕ × VecLine) → i ≤ j → j < l.number-index → (get_or l.lines i d).0 ≤ (get_or l.lines j d).0;
  below : (i : ℕ) (d : ℕ × VecLine) → i < l.number-index → (get_or l.lines i d).0 ≤ l.last;
}
