use Rattle.drc_check.proofs.Common.{◌≡◌, ◌+◌, ◌++◌, ◌∷◌, [], List, length, map, take, sym, ap, subst, ◌∙◌, arith, take_more, Rect, Rule, Violation}
use Rattle.drc_check.proofs.Common.{ViolatesIn, violation_of, AreRuleStripsFrom}
use Rattle.std.proofs.lemmas.List.{length-take-le}
use Rattle.drc_check.proofs.ViolationLaws.{strips_more}
use Rattle.drc_check.proofs.checking.violations_of.Goals as goal

pub loop-place-preserved : goal.loop-place-preserved
loop-place-preserved c =
    let rules = c.args.rules.now in
    let place = c.loop-place.place in
    let rule = c.index-rules-place.result in
    let strips = c.in_ok-strips.strips.items in
    let found = c.loop-place.found.items in
    let pieces = c.args.pieces.now in
    let next : take (place + 1) rules ≡ take place rules ++ rule ∷ [] =
    take_more rules place rule c.loop-place-test.true ∙ ap (λ (r : Rule). take place rules ++ r ∷ []) (sym c.index-rules-place.is) in
    let added : c.add_strips.new.found.items ≡ found ++ map (violation_of (place + 1) rule.first_plane) strips =
    c.in_ok-add_strips.ensures ∙ ap (λ (s : List Rect). found ++ map (violation_of (place + 1) rule.first_plane) s) c.as_slice.ensures.value in
    let test = c.loop-place-test.true in
    let last : place + 1 ≡ 1 + length (take place rules) = omega (arith, length-take-le place rules (omega arith)) in
    subst (λ (f : List Violation). AreRuleStripsFrom (ViolatesIn pieces) 1 (take (place + 1) rules) f) (sym added)
    (subst (λ (r : List Rule). AreRuleStripsFrom (ViolatesIn pieces) 1 r (found ++ map (violation_of (place + 1) rule.first_plane) strips)) (sym next)
    (strips_more (ViolatesIn pieces) 1 (place + 1) (take place rules) rule found strips last c.loop-place.invariant c.in_ok-strips.ensures))
