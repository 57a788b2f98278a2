use Rattle.steady_state.proofs.Common.{arith, length, ap, ◌∙◌, state_of, network_in}
use Rattle.steady_state.proofs.Collecting.{chain_inside}
use Rattle.steady_state.proofs.Moving.{part_steps}
use Rattle.steady_state.proofs.Wires.{sound_of}
use Rattle.steady_state.proofs.stepping.step_marked.Goals as goal

pub returns-clause-step : goal.returns-clause-step
returns-clause-step c = λ quiet.
    let same_length = ap length c.requires.same in
    let here = c.step_vicinities.ensures in
    part_steps (network_in c.args.net.now) c.args.state.now c.step_vicinities.new.next c.args.marks.now.inside c.step_vicinities.new.marks.inside
    (sound_of c.args.net.now) (omega arith) quiet here.grown
    (chain_inside (network_in c.args.net.now) c.args.state.now c.step_vicinities.new.marks.inside here.closed.left here.closed.right)
    here.marks.storage here.steady (λ v out. here.kept v out ∙ ap (λ x. state_of x v) c.requires.same)

pub returns-clause-joined : goal.returns-clause-joined
returns-clause-joined c = λ m v ins i.
    let e = i.ends in
    let here = c.step_vicinities.ensures in
    rw e at (chain_inside (network_in c.args.net.now) c.args.state.now c.step_vicinities.new.marks.inside here.closed.left here.closed.right m i.chain
    (here.grown m ins) i.is_chain)
