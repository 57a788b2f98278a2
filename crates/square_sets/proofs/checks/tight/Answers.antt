-- What of the squares in no box outside a set is not of the set is too tight.
use Rattle.square_sets.proofs.Common.{◌≡◌, w64, to_z, of_z, rules, to_z-of_z, IfOk-weaker, IsInUnion, IsStrips, strips_same, IsOutside, LiesInNoBox}
use Rattle.square_sets.proofs.Common.{IsInFirstAlone}
use Rattle.square_sets.specs.Boxes.{IsTooTight}
use Rattle.square_sets.proofs.ErosionLaws.{strips_cover}
use Rattle.square_sets.proofs.checks.tight.Goals as goal

pub returns : goal.returns
returns c =
    let set = c.args.set.now in
    let S = IsInUnion set in
    let d = c.args.d in
    let fits : to_z w64 (of_z w64 d) ≡ d = to_z-of_z w64 d (search rules) in
    let rest = c.in_ok-closed.closed.items in
    let closed = (strips_cover (LiesInNoBox (IsOutside S) d) rest (rw fits at c.in_ok-closed.ensures)).1 in
    IfOk-weaker c.difference.result _ (λ found. IsStrips (IsTooTight S d) found.items)
    (λ found. strips_same (IsInFirstAlone rest set) (IsTooTight S d) (λ square a. (a.1, closed.to square a.0))
    (λ square n. (closed.back square n.1, n.0)) found.items) (rw c.as_slice.ensures.value at c.difference.ensures)
