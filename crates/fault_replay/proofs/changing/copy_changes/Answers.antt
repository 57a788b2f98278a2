use Rattle.fault_replay.proofs.Common.{ℕ, List, Bool, ap, get_or, slice_set, sym, ◌∙◌, Level, Zero, is_copied}
use Rattle.fault_replay.proofs.ChangedStates.{passed_off, passed_on}
use Rattle.fault_replay.proofs.changing.copy_changes.Goals as goal
use Rattle.fault_replay.proofs.changing.copy_changes.Goals.{then-is_copied, else-is_copied}

pub loop-node-preserved : goal.loop-node-preserved
loop-node-preserved c =
    let d : ℕ × Level = (0, Zero) in
    let changes = c.args.changes.now in
    let i = c.loop-node.node-index in
    let at = get_or changes i d in
    let test : ℕ × Level → Bool = λ change. is_copied c.args.marks.now.inside c.args.held change.0 in
    elim c.if-is_copied.branch [
      | then-is_copied w ↦ w.states-is ∙ ap (λ (s : List Level). slice_set s at.0 at.1) c.loop-node.invariant
          ∙ sym (passed_on test changes i d c.args.states.now c.loop-node-test.true (sym c.is_copied.ensures ∙ w.if-is_copied.true))
      | else-is_copied w ↦ w.states-is ∙ c.loop-node.invariant
          ∙ sym (passed_off test changes i d c.args.states.now c.loop-node-test.true (sym c.is_copied.ensures ∙ w.if-is_copied.false))
    ]
