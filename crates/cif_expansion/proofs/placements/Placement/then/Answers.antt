-- The transform that is made is the composed one.
use Rattle.cif_expansion.proofs.Common.{◌∙◌, arith, rules, ints, to_z-of_z, w128, FitsSigned}
use Rattle.cif_expansion.proofs.ViewLaws.{composed_seen}
use Rattle.cif_expansion.proofs.placements.Placement.then.Goals as goal

pub returns : goal.returns
returns c =
    let across : FitsSigned w128 c.point-dx.result.0 = search rules in
    let up : FitsSigned w128 c.point-dx.result.1 = search rules in
    composed_seen _ c.args.self.now _ c.args.outer.now c.then.result _ _ _ _ c.self.view_is c.outer.view_is c.then.ensures.value
    (omega (arith, ints)) (omega (arith, ints))
    (to_z-of_z w128 c.point-dx.result.0 across ∙ c.point-dx.ensures.across) (to_z-of_z w128 c.point-dx.result.1 up ∙ c.point-dx.ensures.up)
