use Rattle.fault_replay.proofs.Common.{List, ap, arith, length, subst, sym, Level, network_of, EndsPhase, IsAlong}
use Rattle.std.proofs.lemmas.List.{with_items_is}
use Rattle.fault_replay.proofs.replaying.Replay.run_recorded.Goals as goal

pub returns-clause-ends : goal.returns-clause-ends
returns-clause-ends c = λ good last along by.
    let net = network_of c.args.net.now in
    let self = c.args.self.now in
    let states = c.args.states.now in
    let new = c.run_phase.new.states in
    let value = c.deref_mut.ensures.value in
    let ends = c.run_phase.ensures.ends good last
    (subst (λ (s : List Level). IsAlong good net self.held self.good.items s self.differing.inside) (sym value) along) by in
    let whole = with_items_is states new (omega (arith, c.run_phase.auto.states, ap length value, states.ok.0)) in
    subst (λ (s : List Level). EndsPhase net c.args.budget states.items c.run_phase.result s) (sym whole)
    (subst (λ (s : List Level). EndsPhase net c.args.budget s c.run_phase.result new) value ends)
