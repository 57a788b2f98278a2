use Rattle.fault_replay.proofs.Common.{◌≡◌, ℕ, ◌<◌, length, IsInside}
use Rattle.fault_replay.proofs.recording.all_nodes.Given as goal

abbrev pub invariant-loop-node : goal.invariant-loop-node
invariant-loop-node l = record {
  fits : length l.nodes.inside ≡ l.count;
  all : (v : ℕ) → v < l.node → IsInside l.nodes.inside v;
}
