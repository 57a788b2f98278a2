-- What is grown covers what is reached, has squares, and goes nowhere past the edge of planes.
use Rattle.square_sets.proofs.Common.{◌≡◌, map, w64, to_z, of_z, sym, ◌∙◌, ap, subst, rules, All, to_z-of_z, PLANE_EDGE, IsProper, IsInUnion, grown}
use Rattle.square_sets.proofs.Common.{AreSameSquares, IsBounded, IsDilated}
use Rattle.std.proofs.lemmas.List.{take_all}
use Rattle.square_sets.proofs.DilationLaws.{grown_bounded, grown_proper, grown_same}
use Rattle.square_sets.proofs.reaches.dilated.Goals as goal

all_are_grown : (c : goal.After-loop-area) → c.loop-area.found.items ≡ map (grown c.args.low c.args.high) c.args.rects.now
all_are_grown c =
    let low : to_z w64 (of_z w64 c.args.low) ≡ c.args.low = to_z-of_z w64 c.args.low (search rules) in
    let high : to_z w64 (of_z w64 c.args.high) ≡ c.args.high = to_z-of_z w64 c.args.high (search rules) in
    rw (low, high) at c.loop-area.invariant ∙ ap (map (grown c.args.low c.args.high)) (take_all c.loop-area.area-index c.args.rects.now c.loop-area-test.false)

pub returns-clause-cover : goal.returns-clause-cover
returns-clause-cover c =
    subst (λ areas. AreSameSquares (IsInUnion areas) (IsDilated c.args.low c.args.high (IsInUnion c.args.rects.now))) (sym (all_are_grown c))
    (grown_same c.args.low c.args.high c.args.rects.now c.requires.low c.requires.high c.requires.proper)

pub returns-clause-proper : goal.returns-clause-proper
returns-clause-proper c =
    subst (All IsProper) (sym (all_are_grown c)) (grown_proper c.args.low c.args.high c.args.rects.now c.requires.low c.requires.high c.requires.proper)

pub returns-clause-bounded : goal.returns-clause-bounded
returns-clause-bounded c =
    subst (All (IsBounded PLANE_EDGE)) (sym (all_are_grown c))
    (grown_bounded c.args.low c.args.high c.args.rects.now c.requires.low c.requires.high c.requires.bounded)
