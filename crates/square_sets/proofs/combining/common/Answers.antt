-- The stacks that have members of both lists have what both cover.
use Rattle.square_sets.proofs.Common.{IfOk-weaker, IsStrips, IsInBoth}
use Rattle.square_sets.proofs.CombinedLaws.{shared_same}
use Rattle.square_sets.proofs.ErosionLaws.{strips_of_same}
use Rattle.square_sets.proofs.combining.common.Goals as goal

pub returns : goal.returns
returns c =
    let whole = IsInBoth c.args.first.now c.args.second.now in
    let same = shared_same c.args.first.now c.args.second.now c.in_ok-stacks.stacks.items c.in_ok-stacks.ensures in
    IfOk-weaker c.strips.result _ (λ found. IsStrips whole found.items) (λ found. strips_of_same _ whole same found.items)
    (rw (c.as_slice.ensures.value, c.in_ok-areas.ensures) at c.strips.ensures)
