-- What is shrunk goes nowhere past the edge; grown again it is what lies in boxes.
use Rattle.square_sets.proofs.Common.{pos, ◌-ℤ◌, sym, subst, arith, All, ints, IfOk-weaker, IsInUnion, IsStrips, SET_EDGE, LiesInBox, IsBounded}
use Rattle.square_sets.proofs.BoundLaws.{corner_reach, union_within}
use Rattle.square_sets.proofs.BoxLaws.{opened}
use Rattle.square_sets.proofs.ErosionLaws.{eroded_within, strips_of_same}
use Rattle.square_sets.proofs.checks.opening.Goals as goal

pub dilated-requires-clause-bounded : goal.dilated-requires-clause-bounded
dilated-requires-clause-bounded c =
    let whole = c.args.whole.now in
    let shrunk = rw (corner_reach c.args.d c.requires.d.0 c.requires.d.1) at c.in_ok-corners.ensures.cover in
    subst (All (IsBounded SET_EDGE)) (sym c.as_slice.ensures.value)
    (union_within whole c.in_ok-corners.corners.items _ c.requires.bounded c.in_ok-corners.ensures.proper
    (λ square u. eroded_within (IsInUnion whole) (pos 0) (c.args.d -ℤ pos 1) square (omega (arith, ints)) (omega (arith, ints, c.requires.d.0))
    (shrunk.to square u)))

pub returns : goal.returns
returns c =
    let S = IsInUnion c.args.whole.now in
    let d = c.args.d in
    let reach = corner_reach d c.requires.d.0 c.requires.d.1 in
    let corners = c.in_ok-corners.corners.items in
    let boxes = c.in_ok-boxes.boxes.items in
    let shrunk = rw reach at c.in_ok-corners.ensures.cover in
    let grown = rw (reach, c.as_slice.ensures.value) at c.in_ok-boxes.ensures.cover in
    IfOk-weaker c.strips.result _ (λ found. IsStrips (LiesInBox S d) found.items)
    (λ found. strips_of_same (IsInUnion boxes) (LiesInBox S d) (opened S d corners boxes shrunk grown) found.items)
    (rw c.as_slice-2.ensures.value at c.strips.ensures)
