-- What the composed transform does to squares is a law of it.
use Rattle.geo_core.proofs.Common.{◌∙◌, ap, arith, rules, ints, to_z-of_z, w64, FitsSigned}
use Rattle.geo_core.specs.Images.{image}
use Rattle.geo_core.proofs.ImageLaws.{image-composed, composed-from_parts}
use Rattle.geo_core.proofs.transforms.Transform.then.Goals as goal

pub returns-clause-value : goal.returns-clause-value
returns-clause-value c =
    let across : FitsSigned w64 c.point-dx.result.0 = search rules in
    let up : FitsSigned w64 c.point-dx.result.1 = search rules in
    composed-from_parts c.args.self.now c.args.outer.now c.then.result _ _ _ _ c.then.ensures.value (omega (arith, ints)) (omega (arith, ints))
    (to_z-of_z w64 c.point-dx.result.0 across ∙ c.point-dx.ensures.across) (to_z-of_z w64 c.point-dx.result.1 up ∙ c.point-dx.ensures.up)

pub returns-clause-squares : goal.returns-clause-squares
returns-clause-squares c = λ s. ap (λ t. image t s) (returns-clause-value c) ∙ image-composed c.args.self.now c.args.outer.now s
