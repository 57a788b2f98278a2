use Rattle.fault_replay.proofs.Common.{List, [], ◌∷◌, ◌++◌, ap, refl, slice_set, subst, sym, ◌∙◌, network_of, Network, VecLine, PhaseRecord, Records}
use Rattle.std.proofs.Common.{append_assoc}
use Rattle.fault_replay.proofs.recording.record_line.Goals as goal

pub returns-in-Set-clause-recorded : goal.returns-in-Set-clause-recorded
returns-in-Set-clause-recorded c = λ number rest later recorded. (
  later,
  refl,
  subst (λ (line : VecLine). Records c.args.budget (network_of c.args.net.now) c.args.states.now ((number, line) ∷ rest) later) (sym c.in-Set.is)
      (subst (λ (net : Network). Records c.args.budget net (slice_set c.args.states.now c.in-Set.node c.in-Set.level) rest later) c.set_input.ensures recorded),
)

pub returns-in-Free-clause-recorded : goal.returns-in-Free-clause-recorded
returns-in-Free-clause-recorded c = λ number rest later recorded. (
  later,
  refl,
  subst (λ (line : VecLine). Records c.args.budget (network_of c.args.net.now) c.args.states.now ((number, line) ∷ rest) later) (sym c.in-Free.is)
      (subst (λ (net : Network). Records c.args.budget net c.args.states.now rest later) c.set_storage.ensures recorded),
)

pub returns-in-Size-clause-recorded : goal.returns-in-Size-clause-recorded
returns-in-Size-clause-recorded c = λ number rest later recorded. (
  later,
  refl,
  subst (λ (line : VecLine). Records c.args.budget (network_of c.args.net.now) c.args.states.now ((number, line) ∷ rest) later) (sym c.in-Size.is)
      (subst (λ (net : Network). Records c.args.budget net c.args.states.now rest later) c.set_size.ensures recorded),
)

pub returns-in_ok-push-in-Phase-clause-recorded : goal.returns-in_ok-push-in-Phase-clause-recorded
returns-in_ok-push-in-Phase-clause-recorded c = λ number rest later recorded.
    let budget = c.args.budget in
    let net = network_of c.args.net.now in
    let phase = c.in_ok-record_phase-in-Phase.field-0 in
    let made = c.in_ok-record_phase-in-Phase.ensures in
    let items = ap (λ (all : List PhaseRecord). all ++ later) c.in_ok-push-in-Phase.ensures.items ∙ append_assoc c.args.phases.now.items (phase ∷ []) later in
    let there = subst (λ (n : Network). Records budget n c.record_phase.new.states rest later) made.net recorded in (
      phase ∷ later,
      items,
      subst (λ (line : VecLine). Records budget net c.args.states.now ((number, line) ∷ rest) (phase ∷ later)) (sym c.in-Phase.is)
          (c.record_phase.new.states, made.recorded, there),
    )

pub returns-in-Show-clause-recorded : goal.returns-in-Show-clause-recorded
returns-in-Show-clause-recorded c = λ number rest later recorded. (
  later,
  refl,
  subst (λ (line : VecLine). Records c.args.budget (network_of c.args.net.now) c.args.states.now ((number, line) ∷ rest) later) (sym c.in-Show.is) recorded,
)
