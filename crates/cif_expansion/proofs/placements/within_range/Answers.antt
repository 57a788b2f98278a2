use Rattle.cif_expansion.proofs.Common.{arith, ints, LiesInRange}
use Rattle.geo_core.proofs.SquareLaws.{rect_is}
use Rattle.cif_expansion.specs.steps.WideRects.{area_of}
use Rattle.cif_expansion.proofs.placements.within_range.Goals as goal

pub returns : goal.returns
returns c =
    let lies : LiesInRange (area_of c.args.area.now) = c.lies_in_range.ensures.0 c.if-not-lies_in_range.false in
    (lies, rect_is _ _ (omega (arith, ints)) (omega (arith, ints)) (omega (arith, ints)) (omega (arith, ints)))
