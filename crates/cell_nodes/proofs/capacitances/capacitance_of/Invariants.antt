use Rattle.cell_nodes.proofs.Common.{◌≡◌, take, map, pos, capacitance, class_of}
use Rattle.std.proofs.Common.{◌^◌, ◌*◌, ◌≤ℤ◌}
use Rattle.cell_nodes.proofs.capacitances.capacitance_of.Given as goal

abbrev pub invariant-loop-k : goal.invariant-loop-k
invariant-loop-k l = record {
  so_far : l.sum ≡ capacitance (map class_of (take l.k l.classes)) (take l.k l.measures);
  not_negative : pos 0 ≤ℤ l.sum;
  small : l.sum ≤ℤ pos (2 ^ 84 * l.k);
}
