-- What the second set reaches on all sides is what is near it.
use Rattle.square_sets.proofs.Common.{◌≡◌, w64, to_z, of_z, rules, to_z-of_z, IfOk-weaker, Square, IsInUnion, IsStrips, strips_same, IsInBoth}
use Rattle.square_sets.specs.Boxes.{IsNearBy, IsTooNear}
use Rattle.square_sets.proofs.BoxLaws.{around, same_trans}
use Rattle.square_sets.proofs.ErosionLaws.{strips_cover}
use Rattle.square_sets.proofs.checks.near.Goals as goal

pub returns : goal.returns
returns c =
    let first = IsInUnion c.args.first.now in
    let second = IsInUnion c.args.second.now in
    let d = c.args.d in
    let fits : to_z w64 (of_z w64 d) ≡ d = to_z-of_z w64 d (search rules) in
    let near : Square → Type 0 = λ square. (other : Square) × (second other × IsNearBy d square other) in
    let grown = around second d c.in_ok-grown.grown.items (rw fits at c.in_ok-grown.ensures.cover) in
    let strips = c.in_ok-around.around.items in
    let cover = strips_cover (IsInUnion c.in_ok-grown.grown.items) strips (rw c.as_slice.ensures.value at c.in_ok-around.ensures) in
    let whole = same_trans (IsInUnion strips) (IsInUnion c.in_ok-grown.grown.items) near cover.1 grown in
    IfOk-weaker c.common.result _ (λ found. IsStrips (IsTooNear first second d) found.items)
    (λ found. strips_same (IsInBoth c.args.first.now strips) (IsTooNear first second d) (λ square a. (a.0, whole.to square a.1))
    (λ square n. (n.0, whole.back square n.1)) found.items) (rw c.as_slice-2.ensures.value at c.common.ensures)
