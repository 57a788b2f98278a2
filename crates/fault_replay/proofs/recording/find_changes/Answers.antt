use Rattle.fault_replay.proofs.Common.{ℕ, List, ap, arith, subst, sym, ◌∙◌, None, network_of, Network, IsStep, sound_of, changed, taken_from}
use Rattle.steady_state.specs.Marked.{IsNear}
use Rattle.fault_replay.proofs.Beside.{listed_below}
use Rattle.fault_replay.proofs.Recorded.{near_step}
use Rattle.fault_replay.proofs.recording.find_changes.Goals as goal

pub step_near-requires-clause-nodes : goal.step_near-requires-clause-nodes
step_near-requires-clause-nodes c =
    listed_below c.args.moved.now c.nodes.result.now c.args.net.now.nodes c.nodes.ensures c.requires.moved

pub changes_between-requires-clause-nodes : goal.changes_between-requires-clause-nodes
changes_between-requires-clause-nodes c =
    listed_below c.step_near.new.net.work.marks c.nodes-2.result.now _ c.nodes-2.ensures
    (omega (arith, c.step_near.new.net.work_fits.marks, ap (λ (net : Network). net.nodes) c.step_near.ensures.net, c.requires.states))

pub returns-clause-step : goal.returns-clause-step
returns-clause-step c = λ quiet.
    let net = network_of c.args.net.now in
    let s = c.args.states.now in
    let next = c.step_near.new.new in
    let marks = c.step_near.new.net.work.marks in
    let near = subst (λ (nodes : List ℕ). IsNear net s nodes None marks.inside) c.nodes.ensures c.step_near.ensures.near in
    let step = near_step net (sound_of c.args.net.now) s c.args.moved.now marks next c.requires.states near (quiet marks.inside near)
    c.step_near.ensures.steady in
    let same = c.in_ok-changes.ensures.same ∙ ap (λ (nodes : List ℕ). changed (taken_from next nodes) s) c.nodes-2.ensures in
    subst (IsStep net s) (sym same) step
