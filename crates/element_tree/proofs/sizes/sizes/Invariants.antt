use Rattle.element_tree.proofs.Common.{◌≡◌, suc, ◌≤◌, All, length, reverse, take, MOST_FLAT_ELEMENTS, size_from, AreMeasured}
use Rattle.element_tree.proofs.sizes.sizes.Given as goal

abbrev pub invariant-loop-cell : goal.invariant-loop-cell
invariant-loop-cell l = record {
  long : length l.sizes.items ≡ length l.exts;
  small : All (λ size. size ≤ suc MOST_FLAT_ELEMENTS) l.sizes.items;
  measured : AreMeasured size_from l.graph.children l.sizes.items (reverse (take l.cell-index l.graph.order));
}
