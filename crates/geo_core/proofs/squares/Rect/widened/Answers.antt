use Rattle.geo_core.proofs.Common.{◌≡◌, ℤ, pos, ◌+ℤ◌, ◌-ℤ◌, to_z, of_z, refl, rules, ints, to_z-of_z}
use Rattle.std.proofs.Common.{w64}
use Rattle.geo_core.specs.Areas.{widened, IsSmall}
use Rattle.geo_core.proofs.SquareLaws.{rect_is}
use Rattle.geo_core.proofs.squares.Rect.widened.Goals as goal

one_less : (z : ℤ) → IsSmall z → to_z w64 (of_z w64 (to_z w64 (of_z w64 z) -ℤ pos 1)) ≡ z -ℤ pos 1
one_less z small =
    let whole : to_z w64 (of_z w64 z) ≡ z = to_z-of_z w64 z (search (rules, ints)) in
    let less : to_z w64 (of_z w64 (z -ℤ pos 1)) ≡ z -ℤ pos 1 = to_z-of_z w64 (z -ℤ pos 1) (search (rules, ints)) in
    rw (whole, less) refl

one_more : (z : ℤ) → IsSmall z → to_z w64 (of_z w64 (to_z w64 (of_z w64 z) +ℤ pos 1)) ≡ z +ℤ pos 1
one_more z small =
    let whole : to_z w64 (of_z w64 z) ≡ z = to_z-of_z w64 z (search (rules, ints)) in
    let more : to_z w64 (of_z w64 (z +ℤ pos 1)) ≡ z +ℤ pos 1 = to_z-of_z w64 (z +ℤ pos 1) (search (rules, ints)) in
    rw (whole, more) refl

pub returns : goal.returns
returns c =
    let area = c.args.self.now in
    let near = c.requires in
    rect_is _ (widened area) (one_less area.xlo near.xlo) (one_less area.ylo near.ylo) (one_more area.xhi near.xhi) (one_more area.yhi near.yhi)
