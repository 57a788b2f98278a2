use Rattle.fault_replay.proofs.Common.{◌≡◌, ℕ, ◌<◌, length, take, All, Level, changed, taken_from}
use Rattle.fault_replay.proofs.changing.changes_between.Given as goal

abbrev pub invariant-loop-node : goal.invariant-loop-node
invariant-loop-node l = record {
  same : changed l.changes.items l.old ≡ changed (taken_from l.new (take l.node-index l.nodes)) l.old;
  within : All (λ (change : ℕ × Level). change.0 < length l.old) l.changes.items;
}
