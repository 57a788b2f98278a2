use Rattle.fault_replay.proofs.Common.{◌<◌, List, ap, arith, length, slice_index, slice_index_or, slice_set, sym, take, ◌∙◌, get_or_default, Level}
use Rattle.fault_replay.proofs.Common.{X, Zero, changed, taken_from}
use Rattle.fault_replay.proofs.ChangedStates.{taken_more}
use Rattle.fault_replay.proofs.changing.take_states.Goals as goal

pub loop-node-preserved : goal.loop-node-preserved
loop-node-preserved c =
    let nodes = c.args.nodes.now in
    let next = c.args.next.now in
    let i = c.loop-node.node-index in
    let v = slice_index nodes i in
    let in_states = c.requires.nodes i 0 c.loop-node-test.true in
    let below : v < length next = omega (arith, in_states, c.requires.next) in
    ap (λ (s : List Level). slice_set s v (slice_index_or next v Zero)) c.loop-node.invariant
    ∙ ap (slice_set (changed (taken_from next (take i nodes)) c.args.states.now) v) (get_or_default next v Zero X below)
    ∙ sym (taken_more next nodes i 0 c.args.states.now c.loop-node-test.true)
