use Rattle.measures.proofs.Common.{◌-ℤ◌, ◌*ℤ◌, to_z, of_z, arith, w64, ints}
use Rattle.measures.proofs.RectSizes.{area_by_product, product_fits, area_as_read}
use Rattle.measures.proofs.sizes.area_of.Goals as goal

pub overflow_mul-result : goal.overflow_mul-result
overflow_mul-result c =
    let rect = c.args.rect.now in
    let width = to_z w64 (of_z w64 (to_z w64 (of_z w64 rect.xhi) -ℤ to_z w64 (of_z w64 rect.xlo))) in
    let height = to_z w64 (of_z w64 (to_z w64 (of_z w64 rect.yhi) -ℤ to_z w64 (of_z w64 rect.ylo))) in
    product_fits rect (width *ℤ height) c.requires.proper c.requires.near (area_by_product rect width height (omega (arith, ints)) (omega (arith, ints)))

pub returns : goal.returns
returns c =
    let rect = c.args.rect.now in
    let width = to_z w64 (of_z w64 (to_z w64 (of_z w64 rect.xhi) -ℤ to_z w64 (of_z w64 rect.xlo))) in
    let height = to_z w64 (of_z w64 (to_z w64 (of_z w64 rect.yhi) -ℤ to_z w64 (of_z w64 rect.ylo))) in
    area_as_read rect (width *ℤ height) c.requires.proper c.requires.near (area_by_product rect width height (omega (arith, ints)) (omega (arith, ints)))
