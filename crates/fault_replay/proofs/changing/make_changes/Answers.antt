use Rattle.fault_replay.proofs.Common.{ℕ, List, ap, get_or, slice_set, sym, ◌∙◌, Level, Zero}
use Rattle.fault_replay.proofs.ChangedStates.{changed_more}
use Rattle.fault_replay.proofs.changing.make_changes.Goals as goal

pub loop-node-preserved : goal.loop-node-preserved
loop-node-preserved c =
    let d : ℕ × Level = (0, Zero) in
    let changes = c.args.changes.now in
    let at = get_or changes c.loop-node.node-index d in
    ap (λ (s : List Level). slice_set s at.0 at.1) c.loop-node.invariant
    ∙ sym (changed_more changes c.loop-node.node-index d c.args.states.now c.loop-node-test.true)
