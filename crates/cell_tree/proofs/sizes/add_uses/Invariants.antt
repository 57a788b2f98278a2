use Rattle.cell_tree.proofs.Common.{◌≡◌, ◌+◌, ◌-◌, ◌*◌, ◌≤◌, take, drop, size_at, grown}
use Rattle.cell_tree.specs.declared.limits.TheConstants.{MOST_DEPTH, MOST_ELEMENTS_OF_USE}
use Rattle.cell_tree.proofs.sizes.add_uses.Given as goal

abbrev pub invariant-loop-k : goal.invariant-loop-k
invariant-loop-k l = record {
  grows : l.grown ≡ grown l.dimension (size_at l.sizes) l.size (take (l.k - l.from) (drop l.from l.uses.entries));
  few : l.grown.elements ≤ 1 + l.k * MOST_ELEMENTS_OF_USE;
  flat : l.grown.depth ≤ MOST_DEPTH + 1;
}
