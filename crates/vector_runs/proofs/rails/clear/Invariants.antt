use Rattle.vector_runs.proofs.Common.{◌≡◌, ◌<◌, ℕ, false}
use Rattle.std.proofs.Common.{slice_index, slice_index_or}
use Rattle.vector_runs.proofs.rails.clear.Given as goal

abbrev pub invariant-loop-node : goal.invariant-loop-node
invariant-loop-node l = record {
  nodes : l.net.nodes ≡ l.fn.net.nodes;
  switches : l.net.switches ≡ l.fn.net.switches;
  sizes : (v : ℕ) → v < l.node → slice_index l.net.sizes v ≡ 1;
  inputs : (v : ℕ) → v < l.node → slice_index_or l.net.inputs v false ≡ false;
}
