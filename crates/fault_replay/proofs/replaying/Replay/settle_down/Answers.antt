use Rattle.fault_replay.proofs.Common.{◌≡◌, ℕ, List, [], ap, arith, refl, slice_index, subst, sym, ◌∙◌, Level, network_of, Network, state_of, IsStep}
use Rattle.fault_replay.proofs.Common.{sound_of, steps_more, IsAlong}
use Rattle.fault_replay.proofs.Beside.{along_at, each_of, listed_below, rests, taken_along, taken_step}
use Rattle.fault_replay.proofs.replaying.Replay.settle_down.Goals as goal

pub differ_at-requires-clause-nodes : goal.differ_at-requires-clause-nodes
differ_at-requires-clause-nodes c =
    listed_below c.look.new.net.work.marks c.nodes.result.now _ c.nodes.ensures
    (omega (arith, c.look.new.net.work_fits.marks, ap (λ (net : Network). net.nodes) c.look.ensures.net, c.steps.invariant.states))

pub returns-then-not-differ_at-clause-settles : goal.returns-then-not-differ_at-clause-settles
returns-then-not-differ_at-clause-settles c = λ good along step.
    let before = c.steps.invariant in
    let first = network_of c.args.net.now in
    let here = network_of c.steps.net in
    let s = c.args.self.now.good.items in
    let t = c.steps.states in
    let next = c.look.new.self.next.items in
    let marks = c.look.new.net.work.marks in
    let now = along_at good first here c.args.self.now.held c.steps.self.held s t c.steps.self.differing.inside (sym before.net) (sym before.held)
    (before.along good along step) in
    let still = each_of marks c.nodes.result.now (λ (v : ℕ). state_of t v ≡ state_of next v) c.nodes.ensures
    (λ i lt. c.differ_at.ensures c.if-not-differ_at.true i lt ∙ ap (λ (x : List Level). state_of x (slice_index c.nodes.result.now i)) c.deref.ensures.value) in
    let rest = rests good here c.steps.self.held s t c.steps.self.differing marks next [] (sound_of c.steps.net) now c.look.ensures.near c.look.ensures.steady
    step still in
    (c.steps.taken, before.few, before.steps good along step, subst (λ (net : Network). IsStep net t t) before.net rest)

pub steps-preserved : goal.steps-preserved
steps-preserved c =
    let before = c.steps.invariant in
    let looked = c.look.ensures in
    let took = c.take.ensures in
    let first = network_of c.args.net.now in
    let here = network_of c.steps.net in
    let held = c.args.self.now.held in
    let s = c.args.self.now.good.items in
    let t = c.steps.states in
    let next = c.look.new.self.next.items in
    let marks = c.look.new.net.work.marks in
    let now : (good : Network) → IsAlong good first held s c.args.states.now c.args.self.now.differing.inside → IsStep good s s
    → IsAlong good here c.steps.self.held s t c.steps.self.differing.inside =
    λ good along step. along_at good first here held c.steps.self.held s t c.steps.self.differing.inside (sym before.net) (sym before.held)
    (before.along good along step) in
    record {
      replay = took.replay;
      states = omega (arith, c.take.auto.states, before.states, ap (λ (net : Network). net.nodes) looked.net);
      few = omega (arith, before.few, c.if-taken-most.false);
      held = took.held ∙ looked.held ∙ before.held;
      good = took.good ∙ looked.good ∙ before.good;
      net = looked.net ∙ before.net;
      steps = λ good along step.
          let one = taken_step good here c.steps.self.held c.look.new.self.held s c.look.new.self.good.items t c.steps.self.differing marks next []
          c.take.new.self.good.items c.take.new.states looked.held (looked.good ∙ before.good) took.good took.states (sound_of c.steps.net)
          (now good along step)
          looked.near looked.steady step in
          steps_more first c.args.states.now t c.take.new.states c.take.new.states c.steps.taken (before.steps good along step)
          (subst (λ (net : Network). IsStep net t c.take.new.states) before.net one) refl;
      along = λ good along step.
          let one = taken_along good here c.steps.self.held c.look.new.self.held s c.look.new.self.good.items t c.steps.self.differing marks next []
          c.take.new.self.good.items c.take.new.states looked.held (looked.good ∙ before.good) took.good took.states (sound_of c.steps.net)
          (now good along step)
          looked.near looked.steady step c.take.new.self.differing.inside took.told in
          subst (λ (g : List Level). IsAlong good first held g c.take.new.states c.take.new.self.differing.inside) (took.good ∙ looked.good ∙ before.good)
          (along_at good here first c.steps.self.held held c.take.new.self.good.items c.take.new.states c.take.new.self.differing.inside before.net
          before.held one);
    }
