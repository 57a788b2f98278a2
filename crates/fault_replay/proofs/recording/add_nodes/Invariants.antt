use Rattle.fault_replay.proofs.Common.{◌≡◌, ℕ, length, take, All, Level, IsInside}
use Rattle.fault_replay.proofs.recording.add_nodes.Given as goal

abbrev pub invariant-loop-node : goal.invariant-loop-node
invariant-loop-node l = record {
  fits : length l.nodes.inside ≡ length l.fn.nodes.inside;
  grown : (v : ℕ) → IsInside l.fn.nodes.inside v → IsInside l.nodes.inside v;
  all : All (λ (change : ℕ × Level). IsInside l.nodes.inside change.0) (take l.node-index l.changes);
}
