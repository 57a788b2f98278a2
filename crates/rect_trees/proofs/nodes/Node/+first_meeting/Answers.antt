use Rattle.rect_trees.proofs.Common.{◌≡◌, ℕ, List, ◌++◌, Some, None, false, find, sym, ap, ◌∙◌, Option, Rect, common_rect, has_square, meets_at}
use Rattle.rect_trees.proofs.Common.{positions_of, hull_of}
use Rattle.std.specs.Option.{option_or}
use Rattle.std.proofs.lemmas.List.Folds.{find-append}
use Rattle.rect_trees.specs.declared.nodes.Sides.{Sides}
use Rattle.rect_trees.proofs.HullLaws.{none_first}
use Rattle.rect_trees.proofs.nodes.Node.+first_meeting.Goals as goal

-- where the hull is missed, nothing is found
pub returns-then-not-has_square : goal.returns-then-not-has_square
returns-then-not-has_square t c =
    let rects = c.args.rects.now in
    let area = c.args.area.now in
    let node = c.args.self.now in
    let missed : has_square (common_rect (hull_of rects node) area) ≡ false =
    ap (λ (v : Rect). has_square (common_rect v area)) (sym c.hull.ensures) ∙ ap has_square (sym c.common.ensures)
    ∙ sym c.has_square.ensures ∙ (cc) in
    sym (none_first rects area node c.requires missed)

-- what the left side has comes first
pub returns-in-Some : goal.returns-in-Some
returns-in-Some t c =
    let test = meets_at c.args.rects.now c.args.area.now in
    let left = positions_of c.deref-sides.result.now.left in
    let right = positions_of c.deref-sides.result.now.right in
    let found : find test (left ++ right) ≡ Some c.in-Some.position =
    find-append test left right ∙ ap (λ (v : Option ℕ). option_or v (find test right)) (sym c.in-Some.ensures) in
    let same : c.in-Fork.sides.value ≡ c.deref-sides.result.now = cc in
    rw c.in-Fork.is (sym (ap (λ (v : Sides). find test (positions_of v.left ++ positions_of v.right)) same ∙ found))

-- and then what the right side has
pub returns-in-None : goal.returns-in-None
returns-in-None t c =
    let test = meets_at c.args.rects.now c.args.area.now in
    let left = positions_of c.deref-sides.result.now.left in
    let right = positions_of c.deref-sides.result.now.right in
    let found : find test (left ++ right) ≡ c.first_meeting-in-None.result =
    find-append test left right ∙ ap (λ (v : Option ℕ). option_or v (find test right)) (sym c.in-None.ensures)
    ∙ sym c.first_meeting-in-None.ensures in
    let same : c.in-Fork.sides.value ≡ c.deref-sides.result.now = cc in
    rw c.in-Fork.is (sym (ap (λ (v : Sides). find test (positions_of v.left ++ positions_of v.right)) same ∙ found))
