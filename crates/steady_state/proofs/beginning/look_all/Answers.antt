use Rattle.steady_state.proofs.Common.{arith, slice_index, slice_index_or, Switch, End, no_switch, BringAtMost, LeadsInside, network_in}
use Rattle.steady_state.proofs.Collecting.{adds_none, adds_then, leads_grown}
use Rattle.steady_state.proofs.Gathering.{bring_up, more_then, none_more, pulled_of}
use Rattle.steady_state.proofs.Wires.{switch_at, each_at, next_at}
use Rattle.steady_state.proofs.beginning.look_all.Goals as goal

pub bounds-net-place : goal.bounds-net-place
bounds-net-place c = c.switches_at-places.ensures.stand c.switches.place-index c.switches-test.true

pub look-begun-requires-clause-switch : goal.look-begun-requires-clause-switch
look-begun-requires-clause-switch c = switch_at c.args.net.now (slice_index c.switches_at-places.result.now c.switches.place-index) no_switch
    (c.switches_at-places.ensures.stand c.switches.place-index c.switches-test.true)

pub look-begun-requires-clause-gathering : goal.look-begun-requires-clause-gathering
look-begun-requires-clause-gathering c =
    rw (c.switches_at-places.ensures.own c.switches.place-index no_switch c.switches-test.true) c.switches.invariant.gathering

pub switches-init : goal.switches-init
switches-init c = record {
  gathering = c.requires.gathering;
  more = none_more c.args.before;
  marks = c.requires.marks;
  adds = adds_none c.args.marks.now;
  reached = λ seeds k r. k;
  brought = λ i lt. absurd (omega arith);
  led = λ i lt. absurd (omega arith);
}

pub switches-preserved : goal.switches-preserved
switches-preserved c =
    let here = c.look-begun.ensures in
    let inv = c.switches.invariant in
    let places = c.switches_at-places.ensures in
    let own = places.own c.switches.place-index no_switch c.switches-test.true in
    record {
      gathering = rw own at here.gathering;
      more = more_then c.args.before c.switches.begun c.look-begun.result inv.more here.more;
      marks = here.marks;
      adds = adds_then c.args.marks.now c.switches.marks c.look-begun.new.marks inv.adds here.adds;
      reached = λ seeds k r. here.reached seeds (inv.reached seeds k r) (rw own r);
      brought = next_at c.args.net.now.switches.now (End c.args.side) c.args.node c.switches_at-places.result.now places
          (λ (w : Switch). BringAtMost (network_in c.args.net.now) c.args.state.now c.args.side w c.look-begun.result)
          c.switches.place-index no_switch c.switches-test.true
          (λ i lt d. bring_up (network_in c.args.net.now) c.args.state.now c.args.side
          (slice_index_or c.args.net.now.switches.now (slice_index c.switches_at-places.result.now i) d) c.switches.begun c.look-begun.result here.more
          (inv.brought i lt d)) here.bring;
      led = next_at c.args.net.now.switches.now (End c.args.side) c.args.node c.switches_at-places.result.now places
          (LeadsInside (network_in c.args.net.now) c.args.state.now c.args.side c.look-begun.new.marks.inside)
          c.switches.place-index no_switch c.switches-test.true
          (λ i lt d. leads_grown (network_in c.args.net.now) c.args.state.now c.args.side c.switches.marks.inside c.look-begun.new.marks.inside
          (slice_index_or c.args.net.now.switches.now (slice_index c.switches_at-places.result.now i) d) here.adds.grown (inv.led i lt d)) here.marked;
    }

pub returns-clause-pulled : goal.returns-clause-pulled
returns-clause-pulled c = pulled_of (network_in c.args.net.now) c.args.state.now c.args.side c.args.node c.switches.begun
    (each_at c.args.net.now.switches.now (End c.args.side) c.args.node c.switches_at-places.result.now c.switches_at-places.ensures
    (λ (w : Switch). BringAtMost (network_in c.args.net.now) c.args.state.now c.args.side w c.switches.begun)
    (λ i lt d. c.switches.invariant.brought i (omega arith) d))

pub returns-clause-covered : goal.returns-clause-covered
returns-clause-covered c =
    each_at c.args.net.now.switches.now (End c.args.side) c.args.node c.switches_at-places.result.now c.switches_at-places.ensures
    (LeadsInside (network_in c.args.net.now) c.args.state.now c.args.side c.switches.marks.inside)
    (λ i lt d. c.switches.invariant.led i (omega arith) d)
