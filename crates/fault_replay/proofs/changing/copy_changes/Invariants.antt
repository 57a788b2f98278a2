use Rattle.fault_replay.proofs.Common.{◌≡◌, ℕ, take, Level, changed, is_copied}
use Rattle.std.specs.Prelude.{filter}
use Rattle.fault_replay.proofs.changing.copy_changes.Given as goal

abbrev pub invariant-loop-node : goal.invariant-loop-node
invariant-loop-node l =
    l.states ≡ changed (filter (λ (change : ℕ × Level). is_copied l.marks.inside l.held change.0) (take l.node-index l.changes)) l.initial.states
