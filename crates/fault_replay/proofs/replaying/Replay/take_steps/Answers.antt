use Rattle.fault_replay.proofs.Common.{◌≡◌, ℕ, ◌+◌, List, ap, arith, drop, length, refl, subst, sym, ◌∙◌, Level, network_of, Network, Steps, IsStep}
use Rattle.fault_replay.proofs.Common.{steps_more, changed, IsAlong, StepsBy}
use Rattle.fault_replay.proofs.Beside.{along_at, no_steps, split_steps}
use Rattle.fault_replay.proofs.replaying.Replay.take_steps.Goals as goal

pub loop-changes-preserved : goal.loop-changes-preserved
loop-changes-preserved c =
    let before = c.loop-changes.invariant in
    let took = c.take_step.ensures in
    let here = network_of c.loop-changes.net in
    let first = network_of c.args.net.now in
    let held = c.args.self.now.held in
    let s = c.loop-changes.self.good.items in
    let t = c.loop-changes.states in
    let split : (good : Network) (last : List Level) → StepsBy good c.args.self.now.good.items c.args.steps.now last
    → IsStep good s (changed c.items.result.now s)
    × StepsBy good (changed c.items.result.now s) (drop (c.loop-changes.changes-index + 1) c.args.steps.now) last =
    λ good last by. split_steps good s last c.args.steps.now c.loop-changes.changes-index c.items.result.now c.changes-item.result
    c.loop-changes-test.true (c.items.ensures ∙ c.changes-item.is) (before.later good last by) in
    let there : (good : Network) (last : List Level) → IsAlong good first held c.args.self.now.good.items c.args.states.now c.args.self.now.differing.inside
    → StepsBy good c.args.self.now.good.items c.args.steps.now last → IsAlong good here c.loop-changes.self.held s t c.loop-changes.self.differing.inside =
    λ good last along by. along_at good first here held c.loop-changes.self.held s t c.loop-changes.self.differing.inside (sym before.net) (sym before.held)
    (before.along good last along by) in
    record {
      replay = took.replay;
      states = omega (arith, c.take_step.auto.states, before.states, ap (λ (net : Network). net.nodes) took.net);
      held = took.held ∙ before.held;
      net = took.net ∙ before.net;
      steps = λ good last along by.
          let step = subst (λ (net : Network). IsStep net t c.take_step.new.states) before.net
          (took.steps good (there good last along by) (split good last by).0) in
          steps_more first c.args.states.now t c.take_step.new.states c.take_step.new.states c.loop-changes.changes-index (before.steps good last along by)
          step refl;
      along = λ good last along by.
          along_at good (network_of c.take_step.new.net) first c.loop-changes.self.held held c.take_step.new.self.good.items c.take_step.new.states
          c.take_step.new.self.differing.inside (took.net ∙ before.net) before.held (took.along good (there good last along by) (split good last by).0);
      later = λ good last by.
          subst (λ (now : List Level). StepsBy good now (drop (c.loop-changes.changes-index + 1) c.args.steps.now) last) (sym took.good) (split good last by).1;
    }

pub returns-clause-steps : goal.returns-clause-steps
returns-clause-steps c = λ good last along by.
    let all : c.loop-changes.changes-index ≡ length c.args.steps.now = omega (arith, c.loop-changes-test.false, c.loop-changes.auto.changes-index-end) in
    subst (λ (n : ℕ). Steps (network_of c.args.net.now) n c.args.states.now c.loop-changes.states) all (c.loop-changes.invariant.steps good last along by)

pub returns-clause-along : goal.returns-clause-along
returns-clause-along c = λ good last along by.
    let before = c.loop-changes.invariant in
    let end : last ≡ c.loop-changes.self.good.items = no_steps good c.loop-changes.self.good.items last c.args.steps.now c.loop-changes.changes-index
    (omega (arith, c.loop-changes-test.false)) (before.later good last by) in
    subst (λ (s : List Level). IsAlong good (network_of c.loop-changes.net) c.args.self.now.held s c.loop-changes.states c.loop-changes.self.differing.inside)
    (sym end) (subst (λ (net : Network). IsAlong good net c.args.self.now.held c.loop-changes.self.good.items c.loop-changes.states
    c.loop-changes.self.differing.inside) (sym before.net) (before.along good last along by))

pub returns-clause-good : goal.returns-clause-good
returns-clause-good c = λ good last by.
    sym (no_steps good c.loop-changes.self.good.items last c.args.steps.now c.loop-changes.changes-index (omega (arith, c.loop-changes-test.false))
    (c.loop-changes.invariant.later good last by))
