use Rattle.offences.proofs.Common.{◌≡◌, ℤ, pos, ◌+ℤ◌, ◌≤ℤ◌, ap, ◌∙◌, rules, ints, moved_rect}
use Rattle.std.proofs.Common.{negsuc, FitsSigned, to_z, of_z}
use Rattle.std.specs.Int.{w64}
use Rattle.std.proofs.lemmas.Int.{to_z-of_z}
use Rattle.geo_core.specs.Areas.{IsSmall}
use Rattle.geo_core.proofs.SquareLaws.{rect_is}
use Rattle.offences.proofs.changes.moved.Goals as goal

sum_kept : (a d : ℤ) → FitsSigned w64 a → FitsSigned w64 d → FitsSigned w64 (a +ℤ d)
    → to_z w64 (of_z w64 (to_z w64 (of_z w64 a) +ℤ to_z w64 (of_z w64 d))) ≡ a +ℤ d
sum_kept a d p q r =
    ap (λ (z : ℤ). to_z w64 (of_z w64 (z +ℤ to_z w64 (of_z w64 d)))) (to_z-of_z w64 a p)
    ∙ ap (λ (z : ℤ). to_z w64 (of_z w64 (a +ℤ z))) (to_z-of_z w64 d q)
    ∙ to_z-of_z w64 (a +ℤ d) r

small_sum : (a d : ℤ) → IsSmall a → negsuc 0 ≤ℤ d → d ≤ℤ pos 1 → to_z w64 (of_z w64 (to_z w64 (of_z w64 a) +ℤ to_z w64 (of_z w64 d))) ≡ a +ℤ d
small_sum a d small low high =
    let lower = small.0 in
    let upper = small.1 in
    sum_kept a d (search (rules, ints, lower, upper)) (search (rules, ints, low, high)) (search (rules, ints, lower, upper, low, high))

pub returns : goal.returns
returns c =
    let area = c.args.area.now in
    let near = c.requires.near in
    let dx = c.args.dx in
    let dy = c.args.dy in
    let right = c.requires.right in
    let up = c.requires.up in
    rect_is _ (moved_rect area dx dy) (small_sum area.xlo dx near.xlo right.0 right.1) (small_sum area.ylo dy near.ylo up.0 up.1)
    (small_sum area.xhi dx near.xhi right.0 right.1) (small_sum area.yhi dy near.yhi up.0 up.1)
