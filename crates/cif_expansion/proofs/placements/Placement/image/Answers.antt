-- The rectangle that is made is the image.
use Rattle.cif_expansion.proofs.Common.{◌∙◌, arith, rules, ints, to_z-of_z, w128, FitsSigned}
use Rattle.cif_expansion.proofs.ViewLaws.{rect_seen}
use Rattle.cif_expansion.proofs.placements.Placement.image.Goals as goal

pub returns : goal.returns
returns c =
    let l : FitsSigned w128 c.corner-left.result.0 = search rules in
    let b : FitsSigned w128 c.corner-left.result.1 = search rules in
    let r : FitsSigned w128 c.corner-right.result.0 = search rules in
    let t : FitsSigned w128 c.corner-right.result.1 = search rules in
    let xlo : FitsSigned w128 c.ends-xlo.result.0 = search rules in
    let xhi : FitsSigned w128 c.ends-xlo.result.1 = search rules in
    let ylo : FitsSigned w128 c.ends-ylo.result.0 = search rules in
    let yhi : FitsSigned w128 c.ends-ylo.result.1 = search rules in
    rect_seen _ c.args.self.now c.args.area.now c.turns_x.result c.turns_y.result _ _ _ _ _ _ _ _ _ _ _ _
    c.self.view_is c.turns_x.ensures c.turns_y.ensures
    (omega (arith, ints)) (omega (arith, ints)) (omega (arith, ints)) (omega (arith, ints))
    (to_z-of_z w128 c.corner-left.result.0 l ∙ c.corner-left.ensures.across) (to_z-of_z w128 c.corner-left.result.1 b ∙ c.corner-left.ensures.up)
    (to_z-of_z w128 c.corner-right.result.0 r ∙ c.corner-right.ensures.across) (to_z-of_z w128 c.corner-right.result.1 t ∙ c.corner-right.ensures.up)
    (to_z-of_z w128 c.ends-xlo.result.0 xlo ∙ c.ends-xlo.ensures.low) (to_z-of_z w128 c.ends-xlo.result.1 xhi ∙ c.ends-xlo.ensures.high)
    (to_z-of_z w128 c.ends-ylo.result.0 ylo ∙ c.ends-ylo.ensures.low) (to_z-of_z w128 c.ends-ylo.result.1 yhi ∙ c.ends-ylo.ensures.high)
