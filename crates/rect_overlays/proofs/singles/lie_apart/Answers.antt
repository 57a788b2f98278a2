use Rattle.rect_overlays.proofs.Common.{◌∙◌, get_or, take, sym, subst, take_more, AreApart}
use Rattle.std.proofs.lemmas.List.{take_all}
use Rattle.rect_overlays.proofs.Apart.{apart_more}
use Rattle.rect_overlays.proofs.singles.lie_apart.Goals as goal

pub loop-index-preserved : goal.loop-index-preserved
loop-index-preserved c =
    let rects = c.args.rects.now in
    let members = c.args.members.now in
    let i = c.loop-index.index in
    subst (AreApart rects) (sym (take_more members i 0 c.loop-index-test.true))
    (apart_more rects (take i members) (get_or members i 0) c.loop-index.invariant (sym c.any_meets.ensures ∙ c.if-any_meets.false))

pub returns : goal.returns
returns c made =
    subst (AreApart c.args.rects.now) (take_all c.loop-index.index c.args.members.now c.loop-index-test.false) c.loop-index.invariant
