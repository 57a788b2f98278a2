use Rattle.rect_trees.proofs.Common.{◌≡◌, ℕ, List, ◌++◌, map, length, take, ap, ◌∙◌, arith, position_of, positions_of}
use Rattle.std.proofs.Common.{◌-◌, ◌/◌, drop}
use Rattle.rect_trees.proofs.PlaceLaws.{halves_joined}
use Rattle.rect_trees.proofs.nodes.+grow.Goals as goal

pub returns-clause-positions : goal.returns-clause-positions
returns-clause-positions t c =
    let sides = c.in_ok-new.field-0.value in
    let places = c.args.places.now in
    let middle = length places / 2 in
    let same_left : sides.left ≡ c.in_ok-left.left = ap (λ v. v.left) c.in_ok-new.ensures.ok in
    let same_right : sides.right ≡ c.in_ok-right.right = ap (λ v. v.right) c.in_ok-new.ensures.ok in
    let on_left : positions_of sides.left ≡ map position_of (take middle places) = ap positions_of same_left ∙ c.in_ok-left.ensures.positions in
    let on_right : positions_of sides.right ≡ map position_of (take (length places - middle) (drop middle places)) =
    ap positions_of same_right ∙ c.in_ok-right.ensures.positions in
    ap (λ (v : List ℕ). v ++ positions_of sides.right) on_left ∙ ap (λ (v : List ℕ). map position_of (take middle places) ++ v) on_right
    ∙ halves_joined places middle (omega arith)
