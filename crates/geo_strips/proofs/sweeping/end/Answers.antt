-- Each gap goes out of the runs in turn.
use Rattle.geo_strips.proofs.Common.{◌≡◌, pos, take, get_or, sym, ◌∙◌, subst, rules, to_z, of_z, w64, int_cmp, get, to_z-of_z, take_more, Gap}
use Rattle.geo_strips.proofs.Common.{IsUncovered, row_of}
use Rattle.std.proofs.Common.{take_all}
use Rattle.geo_strips.proofs.SweepLaws.{IsEnding, ending_more, sweep_ended}
use Rattle.geo_strips.proofs.sweeping.end.Goals as goal

pub loop-gap-preserved : goal.loop-gap-preserved
loop-gap-preserved c =
    let event = c.args.event.now in
    let items = c.deref-gap-items.result.now in
    let gap : Gap = get_or items c.loop-gap.gap-index (record { from = pos 0; to = pos 0 }) in
    let u : IsUncovered (to_z w64 (of_z w64 gap.from)) (to_z w64 (of_z w64 gap.to)) (to_z w64 (of_z w64 event.row)) (row_of c.loop-gap.sweep)
    (get int_cmp c.uncover.new.runs)
    c.loop-gap.sweep.found.items c.uncover.new.found.items = c.in_ok-uncover.ensures in
    let more = ending_more event.row (take c.loop-gap.gap-index items) gap (row_of c.args.sweep.now) (row_of c.loop-gap.sweep) (get int_cmp c.uncover.new.runs)
    c.args.sweep.now.found.items c.loop-gap.sweep.found.items c.uncover.new.found.items c.loop-gap.invariant.ending
    (rw (to_z-of_z w64 gap.from (search rules), to_z-of_z w64 gap.to (search rules), to_z-of_z w64 event.row (search rules)) at u) in
    record {
      ending = subst (λ v. IsEnding event.row v (row_of c.args.sweep.now) (get int_cmp c.uncover.new.runs) c.args.sweep.now.found.items
          c.uncover.new.found.items) (sym (take_more items c.loop-gap.gap-index (record { from = pos 0; to = pos 0 }) c.loop-gap-test.true)) more;
      same = c.loop-gap.invariant.same;
    }

pub returns : goal.returns
returns c =
    let event = c.args.event.now in
    let row : to_z w64 (of_z w64 event.row) ≡ event.row = to_z-of_z w64 event.row (search rules) in
    let from : to_z w64 (of_z w64 event.from) ≡ event.from = to_z-of_z w64 event.from (search rules) in
    let to : to_z w64 (of_z w64 event.to) ≡ event.to = to_z-of_z w64 event.to (search rules) in
    let adds = rw (from, to, row, c.new-gaps.ensures.items) at c.in_ok-add_gaps.ensures in
    let all : take c.loop-gap.gap-index c.deref-gap-items.result.now ≡ c.add_gaps.new.gaps.items = take_all _ _ c.loop-gap-test.false
    ∙ c.deref-gap-items.ensures.value in
    sweep_ended event c.args.sweep.now c.loop-gap.sweep c.add_gaps.new.gaps.items adds
    (subst (λ v. IsEnding event.row v (row_of c.args.sweep.now) (row_of c.loop-gap.sweep) c.args.sweep.now.found.items c.loop-gap.sweep.found.items) all
    c.loop-gap.invariant.ending) c.loop-gap.invariant.same
