use Rattle.std.proofs.Common.{◌≡◌, ◌<◌, ℕ, pos, length, get_or, take}
use Rattle.key_sums.specs.Amounts.{sum_of}
use Rattle.key_sums.proofs.SumLaws.{Bounded}
use Rattle.key_sums.proofs.sums_by_key.Given as goal

abbrev pub invariant-loop-amount : goal.invariant-loop-amount
invariant-loop-amount l = record {
  so_many : length l.sums.items ≡ l.count;
  each : (key : ℕ) → key < l.count → get_or l.sums.items key (pos 0) ≡ sum_of key (take l.amount-index l.amounts);
  bounded : (key : ℕ) → key < l.count → Bounded l.amount-index (get_or l.sums.items key (pos 0));
}
