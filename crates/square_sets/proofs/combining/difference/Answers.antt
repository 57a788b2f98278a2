-- The stacks all of whose members are of the first list have what it covers alone.
use Rattle.square_sets.proofs.Common.{IfOk-weaker, IsStrips, IsInFirstAlone}
use Rattle.square_sets.proofs.CombinedLaws.{lone_same}
use Rattle.square_sets.proofs.ErosionLaws.{strips_of_same}
use Rattle.square_sets.proofs.combining.difference.Goals as goal

pub returns : goal.returns
returns c =
    let whole = IsInFirstAlone c.args.first.now c.args.second.now in
    let same = lone_same c.args.first.now c.args.second.now c.in_ok-stacks.stacks.items c.in_ok-stacks.ensures in
    IfOk-weaker c.strips.result _ (λ found. IsStrips whole found.items) (λ found. strips_of_same _ whole same found.items)
    (rw (c.as_slice.ensures.value, c.in_ok-areas.ensures) at c.strips.ensures)
