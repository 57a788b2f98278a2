use Rattle.rect_overlays.proofs.Common.{◌≡◌, ℕ, List, length, sym, subst, arith, range_with_len, Regions, IsWholeOf}
use Rattle.geo_core.proofs.FiniteSets.Searches.{range_one_more}
use Rattle.rect_overlays.proofs.Begin.{whole_of_none, whole_more, whole_begins}
use Rattle.rect_overlays.proofs.regions.Regions.around.Goals as goal

pub loop-index-init : goal.loop-index-init
loop-index-init c = whole_of_none c.args.rects.now c.new-whole.result c.new-whole.ensures

pub loop-index-preserved : goal.loop-index-preserved
loop-index-preserved c =
    let rects = c.args.rects.now in
    let i = c.loop-index.index in
    subst (λ (v : List ℕ). IsWholeOf rects v c.add_if.new.self) (sym (range_one_more i))
    (whole_more rects (range_with_len 0 i) i c.loop-index.whole c.add_if.new.self c.has_square.result c.has_square.ensures c.loop-index.invariant
    c.in_ok-add_if.ensures.members c.in_ok-add_if.ensures.hull)

pub returns : goal.returns
returns c =
    let rects = c.args.rects.now in
    let before : Regions = record { spans = c.new.result; members = c.new-2.result } in
    let end : c.loop-index.index ≡ length rects = omega (arith, c.loop-index.auto.index-end, c.loop-index-test.false) in
    whole_begins rects c.loop-index.whole (subst (λ (n : ℕ). IsWholeOf rects (range_with_len 0 n) c.loop-index.whole) end c.loop-index.invariant) before
    c.push.new.self c.new.ensures.items c.new-2.ensures.items c.in_ok-push.ensures
