use Rattle.geo_strips.proofs.Common.{◌≡◌, arith, subst, ints, clamps, IsTopped}
use Rattle.geo_strips.proofs.CoverageLaws.{cut_lifted}
use Rattle.geo_strips.proofs.coverage.Coverage.lift.Goals as goal

pub returns-in-Cut : goal.returns-in-Cut
returns-in-Cut c =
    let fork = c.in-Cut.fork.value in
    let now = c.deref_mut-fork.result.now in
    let is = c.deref_mut-fork.ensures.value in
    let same_at : now.at ≡ fork.at = cc in
    let same_left : now.left ≡ fork.left = cc in
    let same_right : now.right ≡ fork.right = cc in
    let same_least : now.least ≡ fork.least = cc in
    let same_most : now.most ≡ fork.most = cc in
    rw c.in-Cut.is (cut_lifted c.args.top _ _ fork.at _ fork.least _ fork.most _ fork.left _ fork.right _ same_at same_left same_right
    (omega (arith, ints, clamps, same_least, c.max-fork.ensures.value)) (omega (arith, ints, clamps, same_most, c.max-fork-in-Cut.ensures.value))
    (subst IsTopped c.in-Cut.is c.requires))
