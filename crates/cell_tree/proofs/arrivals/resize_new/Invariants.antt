use Rattle.cell_tree.proofs.Common.{states, AreSettled, AreKept}
use Rattle.cell_tree.proofs.arrivals.resize_new.Given as goal

abbrev pub invariant-loop-key : goal.invariant-loop-key
invariant-loop-key l = record {
  settled : AreSettled l.dimension (states l.cells) l.new.first l.new.order.items l.key-index l.sizes;
  kept : AreKept l.dimension l.new.first l.initial.sizes l.sizes;
}
