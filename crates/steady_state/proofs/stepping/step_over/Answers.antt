use Rattle.steady_state.proofs.Common.{slice_index, state_of, IsLevelOf, network_in}
use Rattle.steady_state.proofs.Passes.{order_below, steady_of}
use Rattle.steady_state.proofs.Wires.{sound_of}
use Rattle.steady_state.proofs.stepping.step_over.Goals as goal

pub write_levels-requires-clause-order : goal.write_levels-requires-clause-order
write_levels-requires-clause-order c = rw c.requires.next (order_below (network_in c.args.net.now) c.args.part.now c.requires.part)

pub returns-clause-steady : goal.returns-clause-steady
returns-clause-steady c = λ v ins.
    let at = ins.2 in
    let level : IsLevelOf (slice_index c.find_from_other.new.best v) (slice_index c.find_from_other-2.new.best v) (state_of c.write_levels.new.next v) = rw
    at at (c.write_levels.ensures.written ins.0 ins.1) in
    steady_of (network_in c.args.net.now) c.args.part.now.state.now (sound_of c.args.net.now) v (slice_index c.find_from_other.new.best v)
    (slice_index c.find_from_other-2.new.best v) (state_of c.write_levels.new.next v)
    (c.find_from_other.ensures.strongest v ins) (c.find_from_other-2.ensures.strongest v ins) level
