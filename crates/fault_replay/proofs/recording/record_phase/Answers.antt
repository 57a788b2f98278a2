use Rattle.fault_replay.proofs.Common.{◌-◌, arith, subst, sym, ◌∙◌, network_of, Network, input_in_range, sound_of, phase_keeps}
use Rattle.switch_net.specs.Phase.{IsPhase}
use Rattle.fault_replay.proofs.Recorded.{steps_by_keep}
use Rattle.fault_replay.proofs.recording.record_phase.Goals as goal

pub returns-clause-recorded : goal.returns-clause-recorded
returns-clause-recorded c = (
  sym (c.of-2.ensures ∙ c.in_ok-from_slice.ensures.items),
  omega (arith, c.settle.auto.state, c.record_steps.auto.states),
  (λ v input.
      let net = network_of c.args.net.now in
      let recorded = c.in_ok-recorded.ensures in
      let most = c.args.budget - c.len.result in
      let below = input_in_range net (sound_of c.args.net.now) v input in
      let phase = subst (λ (n : Network). IsPhase n most c.record_steps.new.states c.settle.result.done c.settle.result.steps c.settle.new.state) recorded.net
      c.settle.ensures.phase in
      phase_keeps net v below input most c.record_steps.new.states c.settle.new.state c.settle.result.done c.settle.result.steps phase
      ∙ steps_by_keep net v below input c.args.states.now c.record_steps.new.states c.in_ok-recorded.recorded.steps.items recorded.steps),
)
