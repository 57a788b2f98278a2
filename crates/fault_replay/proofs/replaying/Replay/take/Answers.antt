use Rattle.fault_replay.proofs.Common.{List, arith, ap, inl, inr, subst, sym, ◌∙◌, Level, state_of, IsTold}
use Rattle.fault_replay.proofs.Beside.{each_of, listed_below}
use Rattle.fault_replay.proofs.replaying.Replay.take.Goals as goal

pub take_states-requires-clause-nodes : goal.take_states-requires-clause-nodes
take_states-requires-clause-nodes c =
    listed_below c.args.net.now.work.marks c.nodes.result.now _ c.nodes.ensures
    (omega (arith, c.args.net.now.work_fits.marks, c.copy_changes.auto.states, c.requires.states))

pub tell_all_at-requires-clause-nodes : goal.tell_all_at-requires-clause-nodes
tell_all_at-requires-clause-nodes c =
    listed_below c.args.net.now.work.marks c.nodes-2.result.now _ c.nodes-2.ensures
    (omega (arith, c.args.net.now.work_fits.marks, c.requires.replay.good, c.deref-2.ensures.len, c.args.self.now.good.ok.0))

pub returns-clause-told : goal.returns-clause-told
returns-clause-told c = λ v at differ. elim at [
  | inl ins ↦ c.tell_at.ensures.grown v (each_of c.args.net.now.work.marks c.nodes-2.result.now
      (IsTold c.deref-2.result.now c.take_states.new.states c.tell_all_at.new.told.inside) c.nodes-2.ensures c.tell_all_at.ensures.all v ins
      (λ same. differ (ap (λ (x : List Level). state_of x v) (sym c.deref-2.ensures.value) ∙ same)))
  | inr e ↦ subst (IsTold c.deref-3.result.now c.take_states.new.states c.tell_at.new.told.inside) (sym e) c.tell_at.ensures.here
      (λ same. differ (ap (λ (x : List Level). state_of x v) (sym c.deref-3.ensures.value) ∙ same))
]
