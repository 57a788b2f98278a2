use Rattle.plain_records.proofs.Common.{◌≡◌, suc, ◌≤◌, length, reverse, take, MOST_FLAT_ELEMENTS, size_from, AreMeasured, spreads}
use Rattle.std.proofs.Common.{All}
use Rattle.plain_records.proofs.reach.sizes.Given as goal

abbrev pub invariant-loop-cell : goal.invariant-loop-cell
invariant-loop-cell l = record {
  long : length l.sizes.items ≡ length l.exts;
  small : All (λ size. size ≤ suc MOST_FLAT_ELEMENTS) l.sizes.items;
  measured : AreMeasured size_from (spreads l.exts l.graph.children) l.sizes.items (reverse (take l.cell-index l.graph.order));
}
