use Rattle.meeting_sums.proofs.Common.{◌≡◌, ◌^◌, ◌*◌, take, map, pos, neg_ℤ, ◌≤ℤ◌, capacitance, class_of}
use Rattle.meeting_sums.proofs.capacitances.capacitance_of.Given as goal

abbrev pub invariant-loop-k : goal.invariant-loop-k
invariant-loop-k l = record {
  so_far : l.sum ≡ capacitance (map class_of (take l.k l.classes)) (take l.k l.measures);
  least : neg_ℤ (pos (2 ^ 105 * l.k)) ≤ℤ l.sum;
  most : l.sum ≤ℤ pos (2 ^ 105 * l.k);
}
