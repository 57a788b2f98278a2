-- One rectangle more adds its core, unless that has no square.
use Rattle.square_sets.proofs.Common.{◌≡◌, List, w64, to_z, of_z, sym, ◌∙◌, ap, rules, to_z-of_z, Rect, has_square}
use Rattle.std.proofs.Common.{[], ◌∷◌, ◌++◌, true, false}
use Rattle.std.proofs.lemmas.List.{append-nil, take_all}
use Rattle.square_sets.proofs.ErosionLaws.{cores, cores_more}
use Rattle.square_sets.proofs.reaches.upright_cores.Goals as goal
use Rattle.square_sets.proofs.reaches.upright_cores.Goals.{then-has_square+in_ok-push, else-has_square}

pub loop-area-preserved : goal.loop-area-preserved
loop-area-preserved c =
    let core = c.upright_core-core.result in
    let rects = c.args.rects.now in
    let before = c.loop-area.invariant in
    let more = cores_more (to_z w64 (of_z w64 c.args.low)) (to_z w64 (of_z w64 c.args.high)) rects c.loop-area.area-index core _ c.loop-area-test.true
    c.upright_core-core.ensures in
    elim c.if-has_square.branch [
      | then-has_square+in_ok-push w ↦ (let kept : has_square core ≡ true = sym c.has_square.ensures ∙ w.if-has_square.true in
          rw (w.found-is, w.in_ok-push.ensures.items, more, kept) (ap (λ (found : List Rect). found ++ core ∷ []) before))
      | else-has_square w ↦ (let gone : has_square core ≡ false = sym c.has_square.ensures ∙ w.if-has_square.false in
          rw (w.found-is, more, gone) (before ∙ sym (append-nil _)))
    ]

pub returns : goal.returns
returns c =
    let rects = c.args.rects.now in
    let low : to_z w64 (of_z w64 c.args.low) ≡ c.args.low = to_z-of_z w64 c.args.low (search rules) in
    let high : to_z w64 (of_z w64 c.args.high) ≡ c.args.high = to_z-of_z w64 c.args.high (search rules) in
    let all = ap (cores c.args.low c.args.high) (take_all c.loop-area.area-index rects c.loop-area-test.false) in
    rw (low, high) at c.loop-area.invariant ∙ all
