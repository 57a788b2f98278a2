use Rattle.steady_state.proofs.Common.{arith, slice_index, slice_index_or, no_switch, EndsInside, network_in}
use Rattle.steady_state.proofs.Moving.{ends_grown}
use Rattle.steady_state.proofs.Wires.{switch_at, each_at, next_at}
use Rattle.steady_state.proofs.changes.mark_at.Goals as goal

pub bounds-net-place : goal.bounds-net-place
bounds-net-place c = c.switches_at-places.ensures.stand c.switches.place-index c.switches-test.true

pub mark_ends-requires-clause-switch : goal.mark_ends-requires-clause-switch
mark_ends-requires-clause-switch c = switch_at c.args.net.now (slice_index c.switches_at-places.result.now c.switches.place-index) no_switch
    (c.switches_at-places.ensures.stand c.switches.place-index c.switches-test.true)

pub switches-init : goal.switches-init
switches-init c = record { marks = c.requires.marks; grown = λ v i. i; ends = λ i lt. absurd (omega arith) }

pub switches-preserved : goal.switches-preserved
switches-preserved c =
    let here = c.mark_ends.ensures in
    let inv = c.switches.invariant in
    record {
      marks = here.marks;
      grown = λ v i. here.grown v (inv.grown v i);
      ends = next_at c.args.net.now.switches.now c.args.terminal c.args.node c.switches_at-places.result.now c.switches_at-places.ensures
          (EndsInside (network_in c.args.net.now) c.mark_ends.new.marks.inside)
          c.switches.place-index no_switch c.switches-test.true
          (λ i lt d. ends_grown (network_in c.args.net.now) c.switches.marks.inside c.mark_ends.new.marks.inside
          (slice_index_or c.args.net.now.switches.now (slice_index c.switches_at-places.result.now i) d) here.grown (inv.ends i lt d)) here.ends;
    }

pub returns-clause-ends : goal.returns-clause-ends
returns-clause-ends c =
    each_at c.args.net.now.switches.now c.args.terminal c.args.node c.switches_at-places.result.now c.switches_at-places.ensures
    (EndsInside (network_in c.args.net.now) c.switches.marks.inside)
    (λ i lt d. c.switches.invariant.ends i (omega arith) d)
