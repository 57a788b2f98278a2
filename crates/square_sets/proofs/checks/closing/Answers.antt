-- What is grown goes nowhere past the edge of planes; shrunk again it is what lies in no box outside the set.
use Rattle.square_sets.proofs.Common.{pos, ◌-ℤ◌, List, sym, subst, All, IfOk-weaker, PLANE_EDGE, Rect, IsInUnion, IsStrips, IsOutside, LiesInNoBox}
use Rattle.square_sets.proofs.Common.{AreSameSquares, IsBounded, IsDilated}
use Rattle.square_sets.proofs.BoundLaws.{corner_reach}
use Rattle.square_sets.proofs.BoxLaws.{closed, same_trans}
use Rattle.square_sets.proofs.ErosionLaws.{strips_again, strips_cover, strips_of_same, strips_within}
use Rattle.square_sets.proofs.checks.closing.Goals as goal

pub eroded-requires-clause-strips : goal.eroded-requires-clause-strips
eroded-requires-clause-strips c =
    subst (λ (v : List Rect). IsStrips (IsInUnion v) v) (sym c.as_slice-2.ensures.value)
    (strips_again (IsInUnion c.as_slice.result.now) c.in_ok-whole.whole.items c.in_ok-whole.ensures)

pub eroded-requires-clause-bounded : goal.eroded-requires-clause-bounded
eroded-requires-clause-bounded c =
    let bounded = subst (All (IsBounded PLANE_EDGE)) (sym c.as_slice.ensures.value) c.in_ok-corners.ensures.bounded in
    subst (All (IsBounded PLANE_EDGE)) (sym c.as_slice-2.ensures.value)
    (strips_within c.as_slice.result.now c.in_ok-whole.whole.items _ bounded c.in_ok-whole.ensures)

pub returns : goal.returns
returns c =
    let S = IsInUnion c.args.set.now in
    let d = c.args.d in
    let reach = corner_reach d c.requires.d.0 c.requires.d.1 in
    let corners = c.as_slice.result.now in
    let whole = c.in_ok-whole.whole.items in
    let dilated : AreSameSquares (IsInUnion corners) (IsDilated (d -ℤ pos 1) (pos 0) S) =
    subst (λ (v : List Rect). AreSameSquares (IsInUnion v) (IsDilated (d -ℤ pos 1) (pos 0) S)) (sym c.as_slice.ensures.value)
    (rw reach at c.in_ok-corners.ensures.cover) in
    let grown = same_trans (IsInUnion whole) (IsInUnion corners) (IsDilated (d -ℤ pos 1) (pos 0) S)
    (strips_cover (IsInUnion corners) whole c.in_ok-whole.ensures).1 dilated in
    let rest = c.in_ok-rest.rest.items in
    let shrunk = rw (reach, c.as_slice-2.ensures.value) at c.in_ok-rest.ensures.cover in
    IfOk-weaker c.strips-2.result _ (λ found. IsStrips (LiesInNoBox (IsOutside S) d) found.items)
    (λ found. strips_of_same (IsInUnion rest) (LiesInNoBox (IsOutside S) d) (closed S d whole rest grown shrunk) found.items)
    (rw c.as_slice-3.ensures.value at c.strips-2.ensures)
