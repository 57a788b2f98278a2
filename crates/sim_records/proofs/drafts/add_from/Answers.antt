use Rattle.sim_records.proofs.Common.{◌≡◌, ◌∙◌, ℤ, ◌+ℤ◌, [], ◌∷◌, subst, rules, to_z, of_z, w128, to_z-of_z, TermRec, switch_between, AddsSwitches}
use Rattle.sim_records.proofs.DraftLaws.{adds_one}
use Rattle.sim_records.proofs.drafts.add_from.Goals as goal

pub loop-drain-preserved : goal.loop-drain-preserved
loop-drain-preserved c =
    let fet = c.args.fet.now in
    let source = c.args.source.now in
    let drain = c.drain-item.result in
    let lengths = c.together.result in
    let same : to_z w128 (of_z w128 lengths) ≡ lengths = to_z-of_z w128 lengths (search rules) in
    let A : ℤ → Type 0 = λ z. AddsSwitches (switch_between fet source drain z ∷ []) c.loop-drain.draft c.add_switch.new.draft in
    adds_one (λ (side : TermRec). switch_between fet source side (source.length +ℤ side.length)) c.args.others.now c.loop-drain.drain-index drain
    c.args.draft.now c.loop-drain.draft c.add_switch.new.draft c.loop-drain-test.true c.drain-item.is c.loop-drain.invariant
    (subst A (same ∙ c.together.ensures) c.in_ok-add_switch.ensures)
