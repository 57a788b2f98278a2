use Rattle.fault_replay.proofs.Common.{subst, sym, network_of, Network, sound_of, IsAlong}
use Rattle.fault_replay.proofs.Beside.{taken_along, taken_step}
use Rattle.fault_replay.proofs.replaying.Replay.take_step.Goals as goal

pub returns-clause-steps : goal.returns-clause-steps
returns-clause-steps c = λ good along step.
    let self = c.args.self.now in
    let looked = c.look.ensures in
    taken_step good (network_of c.args.net.now) self.held c.look.new.self.held self.good.items c.look.new.self.good.items c.args.states.now self.differing
    c.look.new.net.work.marks c.look.new.self.next.items c.args.changes.now c.take.new.self.good.items c.take.new.states looked.held looked.good
    c.take.ensures.good c.take.ensures.states (sound_of c.args.net.now) along looked.near looked.steady step

pub returns-clause-along : goal.returns-clause-along
returns-clause-along c = λ good along step.
    let self = c.args.self.now in
    let looked = c.look.ensures in
    let there = taken_along good (network_of c.args.net.now) self.held c.look.new.self.held self.good.items c.look.new.self.good.items c.args.states.now
    self.differing c.look.new.net.work.marks c.look.new.self.next.items c.args.changes.now c.take.new.self.good.items c.take.new.states looked.held
    looked.good c.take.ensures.good c.take.ensures.states (sound_of c.args.net.now) along looked.near looked.steady step
    c.take.new.self.differing.inside c.take.ensures.told in
    subst (λ (n : Network). IsAlong good n self.held c.take.new.self.good.items c.take.new.states c.take.new.self.differing.inside) (sym looked.net) there
