use Rattle.fault_replay.proofs.Common.{◌≡◌, ℕ, List, subst, sym, ◌∙◌, Level, network_of, Network, sound_of, IsTold, IsAlong, PhaseRecord}
use Rattle.fault_replay.specs.Replays.{IsRecorded}
use Rattle.fault_replay.proofs.PhaseEnds.{along_ended}
use Rattle.fault_replay.proofs.replaying.Replay.run_phase.Goals as goal

pub returns-in-Jump-clause-along : goal.returns-in-Jump-clause-along
returns-in-Jump-clause-along c = λ good last along by.
    let self = c.args.self.now in
    let jumped = subst (λ (phase : PhaseRecord). IsRecorded good c.args.budget self.good.items phase last) c.in-Jump.is by in
    let first = network_of c.args.net.now in
    let ran = c.run_jump.ensures in
    let at : c.items-in-Jump.result.now ≡ last = c.items-in-Jump.ensures ∙ sym jumped.0 in
    let tells = subst (λ (s : List Level). (v : ℕ) → IsTold s c.run_jump.new.states c.run_jump.new.self.differing.inside v) at ran.told in
    let after = along_ended good first self.held c.args.budget self.good.items c.args.states.now last c.run_jump.new.states self.differing.inside
    c.run_jump.new.self.differing.inside c.run_jump.result (sound_of c.args.net.now) along ran.ends jumped.1 jumped.2 tells in
    subst (λ (net : Network). IsAlong good net self.held last c.run_jump.new.states c.run_jump.new.self.differing.inside) (sym ran.net) after
