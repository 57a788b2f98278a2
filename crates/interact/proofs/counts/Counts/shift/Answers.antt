use Rattle.interact.proofs.Common.{◌≡◌, ◌+ℤ◌, Box, Global, ap, ◌∙◌, arith, subst, w64, to_z, of_z, ints, to_z-of_z, IsTold, shifted}
use Rattle.interact.proofs.CountLaws.{cut_shifted}
use Rattle.interact.proofs.counts.Counts.shift.Goals as goal

pub returns-in_ok-fork-in-Cut-2 : goal.returns-in_ok-fork-in-Cut-2
returns-in_ok-fork-in-Cut-2 c =
    let fork = c.in-Cut.fork.value in
    let box : Box (Unit {0}) Global = record { ptr = c.in-Cut.fork.ptr; alloc = c.in-Cut.fork.alloc; value = tt {0} } in
    let now = c.deref_mut-fork.result.now in
    let is = c.deref_mut-fork.ensures.value in
    let more : to_z w64 (of_z w64 c.args.more) ≡ c.args.more = to_z-of_z w64 c.args.more c.ranges.more in
    let extra : to_z w64 (of_z w64 c.in_ok-fork-in-Cut.field-0) ≡ fork.extra +ℤ c.args.more =
    omega (arith, ints, ap (λ v. v.extra) is, c.in_ok-fork-in-Cut.ensures) in
    let bounds : c.in_ok-fork-in-Cut-2.field-0 ≡ shifted c.args.more fork.bounds =
    c.in_ok-fork-in-Cut-2.ensures ∙ ap (λ v. shifted v now.bounds) more ∙ ap (λ v. shifted c.args.more v.bounds) is in
    rw (c.in-Cut.is, is, extra, bounds) (cut_shifted c.args.more box box fork.at fork.extra fork.all fork.bounds fork.left fork.right
    (subst IsTold c.in-Cut.is c.requires))
