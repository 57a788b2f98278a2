use Rattle.full_names.proofs.Common.{◌≡◌, length}
use Rattle.full_names.proofs.ReachedLaws.{AreSoFar}
use Rattle.full_names.proofs.reached.reached_records.Given as goal

abbrev pub invariant-loop-number : goal.invariant-loop-number
invariant-loop-number l = record {
  long : length l.cells.items ≡ l.fn.count;
  so_far : AreSoFar l.element-items l.number l.cells.items l.firsts.items;
}
