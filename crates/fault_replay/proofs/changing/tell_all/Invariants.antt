use Rattle.fault_replay.proofs.Common.{◌≡◌, ℕ, ◌<◌, length, IsTold}
use Rattle.fault_replay.proofs.changing.tell_all.Given as goal

abbrev pub invariant-loop-node : goal.invariant-loop-node
invariant-loop-node l = record {
  fits : length l.told.inside ≡ l.nodes;
  all : (v : ℕ) → v < l.node → IsTold l.one l.other l.told.inside v;
}
