-- The transform that is made is the inverted one, and that undoes this one by law.
use Rattle.geo_core.proofs.Common.{◌∙◌, ap, arith, rules, ints, to_z-of_z, w64, FitsSigned}
use Rattle.geo_core.specs.Images.{image}
use Rattle.geo_core.proofs.ImageLaws.{image-back, image-forth, inverted-from_parts}
use Rattle.geo_core.proofs.transforms.Transform.inverse.Goals as goal

pub returns-clause-value : goal.returns-clause-value
returns-clause-value c =
    let across : FitsSigned w64 c.point-dx.result.0 = search rules in
    let up : FitsSigned w64 c.point-dx.result.1 = search rules in
    inverted-from_parts c.args.self.now c.inverse.result _ _ _ _ c.inverse.ensures (omega (arith, ints)) (omega (arith, ints))
    (to_z-of_z w64 c.point-dx.result.0 across ∙ c.point-dx.ensures.across) (to_z-of_z w64 c.point-dx.result.1 up ∙ c.point-dx.ensures.up)

pub returns-clause-back : goal.returns-clause-back
returns-clause-back c = λ s. ap (λ t. image t (image c.args.self.now s)) (returns-clause-value c) ∙ image-back c.args.self.now s

pub returns-clause-forth : goal.returns-clause-forth
returns-clause-forth c = λ s. ap (λ t. image c.args.self.now (image t s)) (returns-clause-value c) ∙ image-forth c.args.self.now s
