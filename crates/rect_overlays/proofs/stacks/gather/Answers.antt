use Rattle.rect_overlays.proofs.Common.{◌≡◌, ◌+◌, ◌++◌, ◌∷◌, [], ℕ, List, Bool, true, cond, take, get_or, sym, ◌∙◌, ap, subst, take_more, Rect}
use Rattle.rect_overlays.proofs.Common.{joined_rect, IsProper, rect_at, meets, IsGathered}
use Rattle.geo_core.proofs.FiniteSets.Members.{In-get_or}
use Rattle.rect_overlays.proofs.Halves.{low_is_proper, high_is_proper, past_low, past_high}
use Rattle.rect_overlays.proofs.Parts.{gathers_none, gathers_more}
use Rattle.rect_overlays.proofs.stacks.gather.Goals as goal

pub loop-member-init : goal.loop-member-init
loop-member-init c =
    let area = c.args.area.now in
    let cut = c.args.cut.now in
    let low = c.low_half-low_area.result in
    let high = c.high_half-high_area.result in
    let low_proper = subst IsProper (sym c.low_half-low_area.ensures) (low_is_proper area cut c.requires.proper c.requires.inside) in
    let high_proper = subst IsProper (sym c.high_half-high_area.ensures) (high_is_proper area cut c.requires.proper c.requires.inside) in
    record {
      low = gathers_none c.args.rects.now low c.clear.new.self low_proper c.clear.ensures.hull c.clear.ensures.members;
      high = gathers_none c.args.rects.now high c.clear-2.new.self high_proper c.clear-2.ensures.hull c.clear-2.ensures.members;
    }

joined : (test : Bool) (hull : Rect) {common common' : Rect} → common ≡ common'
    → cond test (joined_rect hull common) hull ≡ cond test (joined_rect hull common') hull
joined test hull same = ap (λ (r : Rect). cond test (joined_rect hull r) hull) same

pub loop-member-preserved : goal.loop-member-preserved
loop-member-preserved c =
    let rects = c.args.rects.now in
    let members = c.args.members.now in
    let area = c.args.area.now in
    let cut = c.args.cut.now in
    let i = c.loop-member.member-index in
    let member = get_or members i 0 in
    let rect = rect_at rects member in
    let before = take i members in
    let low = c.low_half-low_area.result in
    let high = c.high_half-high_area.result in
    let more : take (i + 1) members ≡ before ++ member ∷ [] = take_more members i 0 c.loop-member-test.true in
    let meet : meets area rect ≡ true = c.requires.meet member (In-get_or members i 0 c.loop-member-test.true) in
    let test_low : c.is_past_low.result ≡ meets low rect =
    c.is_past_low.ensures ∙ past_low area cut rect c.requires.inside meet ∙ ap (λ (r : Rect). meets r rect) (sym c.low_half-low_area.ensures) in
    let test_high : c.is_past_high.result ≡ meets high rect =
    c.is_past_high.ensures ∙ past_high area cut rect c.requires.inside meet ∙ ap (λ (r : Rect). meets r rect) (sym c.high_half-high_area.ensures) in
    record {
      low = subst (λ (v : List ℕ). IsGathered rects v low c.add_if.new.self) (sym more)
          (gathers_more rects before member low c.loop-member.halves.low c.add_if.new.self c.is_past_low.result test_low c.loop-member.invariant.low
          c.in_ok-add_if.ensures.members
          (c.in_ok-add_if.ensures.hull ∙ joined c.is_past_low.result c.loop-member.halves.low.hull c.common-low.ensures));
      high = subst (λ (v : List ℕ). IsGathered rects v high c.add_if-in-loop-member.new.self) (sym more)
          (gathers_more rects before member high c.loop-member.halves.high c.add_if-in-loop-member.new.self c.is_past_high.result test_high
          c.loop-member.invariant.high c.in_ok-add_if-2.ensures.members
          (c.in_ok-add_if-2.ensures.hull ∙ joined c.is_past_high.result c.loop-member.halves.high.hull c.common-high.ensures));
    }
