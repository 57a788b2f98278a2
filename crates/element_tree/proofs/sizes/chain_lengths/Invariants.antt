use Rattle.element_tree.proofs.Common.{◌≡◌, length, reverse, take, chain_from, AreMeasured}
use Rattle.element_tree.proofs.sizes.chain_lengths.Given as goal

abbrev pub invariant-loop-cell : goal.invariant-loop-cell
invariant-loop-cell l = record {
  long : length l.lengths.items ≡ length l.exts;
  measured : AreMeasured chain_from l.graph.children l.lengths.items (reverse (take l.cell-index l.graph.order));
}
