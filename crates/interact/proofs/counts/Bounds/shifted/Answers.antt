use Rattle.interact.proofs.Common.{◌≡◌, ◌+ℤ◌, arith, w64, to_z, of_z, ints}
use Rattle.interact.proofs.counts.Bounds.shifted.Goals as goal

pub returns : goal.returns
returns c =
    let more = c.args.more in
    let bounds = c.args.self.now in
    let least : to_z w64 (of_z w64 c.in_ok-sum.field-0) ≡ bounds.least +ℤ more = omega (arith, ints, c.in_ok-sum.ensures) in
    let most : to_z w64 (of_z w64 c.in_ok-sum-2.field-0) ≡ bounds.most +ℤ more = omega (arith, ints, c.in_ok-sum-2.ensures) in
    let least_shared : to_z w64 (of_z w64 c.in_ok-sum-3.field-0) ≡ bounds.least_shared +ℤ more = omega (arith, ints, c.in_ok-sum-3.ensures) in
    let most_lone : to_z w64 (of_z w64 c.in_ok-sum-4.field-0) ≡ bounds.most_lone +ℤ more = omega (arith, ints, c.in_ok-sum-4.ensures) in
    cc
