-- The sweep before the first event, one event more, and after the last.
use Rattle.geo_strips.proofs.Common.{ℤ, pos, false, get_or, sym, ap, ◌∙◌, subst, arith, rules, FitsSigned, int_cmp, get, ints, In, In-get_or, Event}
use Rattle.geo_strips.proofs.Common.{until, IsCut, AreEvents, sides_of, row_of}
use Rattle.std.proofs.Common.{◌+◌, take_all, w64}
use Rattle.std.specs.BTreeMap.{is_at}
use Rattle.std.specs.Map.{lookup}
use Rattle.std.proofs.lemmas.List.{drop_all}
use Rattle.geo_strips.proofs.SweepLaws.{IsUnderWay, lowest, begun_under_way, ended_under_way, swept_begins, swept_all, from_in_sides, to_in_sides, begin_long}
use Rattle.geo_strips.proofs.sweeping.runs.Goals as goal
use Rattle.geo_strips.proofs.sweeping.runs.Goals.{then-event+in_ok-end, else-event+in_ok-begin}

pub loop-event-init : goal.loop-event-init
loop-event-init c =
    let items = c.deref-event-items.result.now in
    let are = subst (AreEvents c.args.rects.now) (sym c.deref-event-items.ensures.value) c.in_ok-events.ensures in
    let coverage = c.in_ok-uncovered.field-0 in
    let cuts : (x : ℤ) → In x (sides_of items) → IsCut coverage x = λ x i.
    c.in_ok-uncovered.ensures.cuts x (subst (In x) (sym c.as_slice-2.ensures.value) (c.in_ok-sides.ensures.all x
    (subst (λ v. In x (sides_of v)) (c.deref-event-items.ensures.value ∙ sym c.as_slice.ensures.value) i))) in
    record {
      are = are;
      swept = rw c.new-2.ensures.items (swept_begins c.args.rects.now items _ (get int_cmp c.new.result) (until coverage) are
          (λ a. ap (λ v. lookup (is_at (int_cmp a)) v) c.new.ensures.empty) c.in_ok-uncovered.ensures.rows);
      topped = c.in_ok-uncovered.ensures.topped;
      from_cut = λ e i begins. cuts e.from (from_in_sides items e i begins);
      to_cut = λ e i begins. cuts e.to (to_in_sides items e i begins);
    }

pub begin-requires-clause-long : goal.begin-requires-clause-long
begin-requires-clause-long c =
    begin_long c.args.rects.now c.deref-event-items.result.now _ c.loop-event.invariant.are
    (In-get_or c.deref-event-items.result.now c.loop-event.event-index _ c.loop-event-test.true) c.if-event.false

pub begin-requires-clause-from_cut : goal.begin-requires-clause-from_cut
begin-requires-clause-from_cut c = c.loop-event.invariant.from_cut _ (In-get_or c.deref-event-items.result.now c.loop-event.event-index _
    c.loop-event-test.true) c.if-event.false

pub begin-requires-clause-to_cut : goal.begin-requires-clause-to_cut
begin-requires-clause-to_cut c = c.loop-event.invariant.to_cut _ (In-get_or c.deref-event-items.result.now c.loop-event.event-index _
    c.loop-event-test.true) c.if-event.false

pub loop-event-preserved : goal.loop-event-preserved
loop-event-preserved c =
    let items = c.deref-event-items.result.now in
    let i = c.loop-event.event-index in
    let none : Event = record { row = pos 0; ends = false; from = pos 0; to = pos 0; top = pos 0 } in
    let event : Event = get_or items i none in
    let inside = c.loop-event-test.true in
    elim c.if-event.branch [
      | then-event+in_ok-end w ↦ (let fits : FitsSigned w64 event.row = search rules in
          subst (IsUnderWay c.args.rects.now items (i + 1) lowest) (sym w.sweep-is)
          (ended_under_way c.args.rects.now items i lowest c.loop-event.sweep w.end.new.sweep c.loop-event.invariant inside none w.if-event.true
          (omega (arith, ints, fits)) w.in_ok-end.ensures))
      | else-event+in_ok-begin w ↦ subst (IsUnderWay c.args.rects.now items (i + 1) lowest) (sym w.sweep-is)
          (begun_under_way c.args.rects.now items i lowest c.loop-event.sweep w.begin.new.sweep c.loop-event.invariant inside none w.if-event.false
          w.in_ok-begin.ensures)
    ]

pub returns : goal.returns
returns c =
    let items = c.deref-event-items.result.now in
    let before = c.loop-event.invariant in
    let done = take_all c.loop-event.event-index items c.loop-event-test.false in
    let rest = drop_all c.loop-event.event-index items c.loop-event-test.false in
    swept_all c.args.rects.now items _ (row_of c.loop-event.sweep) (until c.loop-event.sweep.coverage) c.loop-event.sweep.found.items before.are
    (rw (done, rest) at before.swept)
