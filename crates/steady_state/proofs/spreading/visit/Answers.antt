use Rattle.steady_state.proofs.Common.{◌≡◌, ◌∙◌, arith, refl, slice_index, slice_index_or, End, no_switch, floors_in, IsOver, IsRelaxed}
use Rattle.steady_state.proofs.UnderWay.{raised_same, raised_then, relaxed_up}
use Rattle.steady_state.proofs.Wires.{switch_at, each_at, next_at}
use Rattle.steady_state.proofs.spreading.visit.Goals as goal

pub switches_at-places-requires : goal.switches_at-places-requires
switches_at-places-requires c = (c.requires.pass.part.storage c.args.node c.requires.node).0

pub bounds-net-place : goal.bounds-net-place
bounds-net-place c = c.switches_at-places.ensures.stand c.switches.place-index c.switches-test.true

pub relax-requires-clause-switch : goal.relax-requires-clause-switch
relax-requires-clause-switch c = switch_at c.args.net.now (slice_index c.switches_at-places.result.now c.switches.place-index) no_switch
    (c.switches_at-places.ensures.stand c.switches.place-index c.switches-test.true)

pub relax-requires-clause-near : goal.relax-requires-clause-near
relax-requires-clause-near c = rw (c.switches_at-places.ensures.own c.switches.place-index no_switch c.switches-test.true) c.requires.node

pub switches-init : goal.switches-init
switches-init c = record {
  fits = c.requires.fits;
  working = c.requires.working;
  raised = raised_same c.args.best.now c.args.waiting.now.count;
  same = refl;
  relaxed = λ i lt. absurd (omega arith);
}

pub switches-preserved : goal.switches-preserved
switches-preserved c =
    let here = c.relax.ensures in
    let inv = c.switches.invariant in
    let places = c.switches_at-places.ensures in
    let own = places.own c.switches.place-index no_switch c.switches-test.true in
    let same : slice_index c.relax.new.best c.args.node ≡ slice_index c.switches.best c.args.node = rw own at here.same in
    record {
      fits = here.fits;
      working = rw own at (here.working (rw own inv.working));
      raised = raised_then c.args.best.now c.switches.best c.relax.new.best c.args.waiting.now.count c.switches.waiting.count c.relax.new.waiting.count
          inv.raised here.raised;
      same = same ∙ inv.same;
      relaxed = next_at c.args.net.now.switches.now (End c.args.side) c.args.node c.switches_at-places.result.now places
          (IsRelaxed c.args.pass.now.part.state.now c.args.pass.now.kind (IsOver c.args.pass.now) (floors_in c.args.pass.now.floor) c.relax.new.best
          c.args.side)
          c.switches.place-index no_switch c.switches-test.true
          (λ i lt d. relaxed_up c.args.pass.now.part.state.now c.args.pass.now.kind (IsOver c.args.pass.now) (floors_in c.args.pass.now.floor) c.switches.best
          c.relax.new.best c.args.side
          (slice_index_or c.args.net.now.switches.now (slice_index c.switches_at-places.result.now i) d) (rw (places.own i d (omega arith)) same)
          here.raised.above (inv.relaxed i lt d)) here.relaxed;
    }

pub returns-clause-relaxed : goal.returns-clause-relaxed
returns-clause-relaxed c =
    each_at c.args.net.now.switches.now (End c.args.side) c.args.node c.switches_at-places.result.now c.switches_at-places.ensures
    (IsRelaxed c.args.pass.now.part.state.now c.args.pass.now.kind (IsOver c.args.pass.now) (floors_in c.args.pass.now.floor) c.switches.best c.args.side)
    (λ i lt d. c.switches.invariant.relaxed i (omega arith) d)
