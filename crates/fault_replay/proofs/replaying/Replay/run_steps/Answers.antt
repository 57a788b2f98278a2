use Rattle.fault_replay.proofs.Common.{◌≡◌, ◌+◌, ◌-◌, ℕ, Bool, List, arith, length, refl, subst, sym, ◌∙◌, Level, network_of, Network, IsStep}
use Rattle.fault_replay.proofs.Common.{sound_of, IsTold, EndsPhase, IsAlong, SettlesDown}
use Rattle.fault_replay.proofs.Beside.{along_as}
use Rattle.fault_replay.proofs.PhaseEnds.{along_ended, ends_after, ends_down, steps_then}
use Rattle.fault_replay.proofs.replaying.Replay.run_steps.Goals as goal

pub returns-then-settle_down-clause-ends : goal.returns-then-settle_down-clause-ends
returns-then-settle_down-clause-ends c = λ good last along by rest.
    let first = network_of c.args.net.now in
    let took = c.take_steps.ensures in
    let most : ℕ = c.args.budget - length c.args.steps.now in
    let at : last ≡ c.take_steps.new.self.good.items = sym (took.good good last by) in
    let mid = along_as good (network_of c.take_steps.new.net) (network_of c.take_steps.new.net) c.args.self.now.held c.take_steps.new.self.held last
    c.take_steps.new.self.good.items c.take_steps.new.states c.take_steps.new.self.differing.inside refl (sym took.held) at (took.along good last along by) in
    let still = subst (λ (s : List Level). IsStep good s s) at rest in
    let down = subst (λ (net : Network). SettlesDown net most c.take_steps.new.states c.settle_down.result c.settle_down.new.states) took.net
    (c.settle_down.ensures.settles good mid still) in
    ends_down first (sound_of c.args.net.now) c.args.states.now c.requires.states (length c.args.steps.now) most c.args.budget c.take_steps.new.states
    c.settle_down.new.states (omega (arith, c.requires.few)) (took.steps good last along by)
    (subst (λ (done : Bool). SettlesDown first most c.take_steps.new.states done c.settle_down.new.states) c.if-settle_down.true down)

pub returns-clause-ends : goal.returns-clause-ends
returns-clause-ends c = λ good last along by rest.
    let first = network_of c.args.net.now in
    let took = c.take_steps.ensures in
    let most : ℕ = c.args.budget - length c.args.steps.now in
    let at : last ≡ c.take_steps.new.self.good.items = sym (took.good good last by) in
    let mid = along_as good (network_of c.take_steps.new.net) (network_of c.take_steps.new.net) c.args.self.now.held c.take_steps.new.self.held last
    c.take_steps.new.self.good.items c.take_steps.new.states c.take_steps.new.self.differing.inside refl (sym took.held) at (took.along good last along by) in
    let still = subst (λ (s : List Level). IsStep good s s) at rest in
    let down = subst (λ (net : Network). SettlesDown net most c.take_steps.new.states c.settle_down.result c.settle_down.new.states) took.net
    (c.settle_down.ensures.settles good mid still) in
    let steps = subst (λ (done : Bool). SettlesDown first most c.take_steps.new.states done c.settle_down.new.states) c.if-settle_down.false down in
    let all = steps_then first c.args.states.now c.take_steps.new.states c.settle_down.new.states (length c.args.steps.now) most
    (took.steps good last along by) steps in
    ends_after first (sound_of c.args.net.now) c.args.states.now c.requires.states (length c.args.steps.now + most) 0 c.args.budget c.settle_down.new.states
    c.end_phase.new.states c.end_phase.result (omega (arith, c.requires.few)) all
    (subst (λ (net : Network). EndsPhase net 0 c.settle_down.new.states c.end_phase.result c.end_phase.new.states) (c.settle_down.ensures.net ∙ took.net)
    c.end_phase.ensures.ends)

pub returns-clause-along : goal.returns-clause-along
returns-clause-along c = λ good last along by rest.
    let took = c.take_steps.ensures in
    let settled = c.settle_down.ensures in
    let here = network_of c.settle_down.new.net in
    let held = c.args.self.now.held in
    let at : last ≡ c.take_steps.new.self.good.items = sym (took.good good last by) in
    let mid = along_as good (network_of c.take_steps.new.net) (network_of c.take_steps.new.net) held c.take_steps.new.self.held last
    c.take_steps.new.self.good.items c.take_steps.new.states c.take_steps.new.self.differing.inside refl (sym took.held) at (took.along good last along by) in
    let still = subst (λ (s : List Level). IsStep good s s) at rest in
    let before = along_as good here here c.take_steps.new.self.held held c.take_steps.new.self.good.items last c.settle_down.new.states
    c.settle_down.new.self.differing.inside refl took.held (sym at) (settled.along good mid still) in
    let good_now : c.end_phase.new.self.good.items ≡ last = c.end_phase.ensures.good ∙ settled.good ∙ sym at in
    let tells = subst (λ (s : List Level). (v : ℕ) → IsTold s c.end_phase.new.states c.end_phase.new.self.differing.inside v) good_now
    c.end_phase.ensures.told in
    let after = along_ended good here held 0 last c.settle_down.new.states last c.end_phase.new.states c.settle_down.new.self.differing.inside
    c.end_phase.new.self.differing.inside c.end_phase.result (sound_of c.settle_down.new.net) before c.end_phase.ensures.ends refl (λ v input. refl) tells in
    subst (λ (net : Network). IsAlong good net held last c.end_phase.new.states c.end_phase.new.self.differing.inside) (sym c.end_phase.ensures.net) after
