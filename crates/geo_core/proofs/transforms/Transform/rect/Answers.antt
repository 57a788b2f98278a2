-- The rectangle that is made is the image, and has the images of the squares by law.
use Rattle.geo_core.proofs.Common.{◌↔◌, sym, ◌∙◌, arith, rules, subst, ints, to_z-of_z, w64, FitsSigned, Rect, Covers}
use Rattle.geo_core.specs.Images.{image}
use Rattle.geo_core.proofs.ImageLaws.{rect_image-from_corners, rect_image-covers, rect_image-covered}
use Rattle.geo_core.proofs.transforms.Transform.rect.Goals as goal

pub returns-clause-value : goal.returns-clause-value
returns-clause-value c =
    let l : FitsSigned w64 c.point-left.result.0 = search rules in
    let b : FitsSigned w64 c.point-left.result.1 = search rules in
    let r : FitsSigned w64 c.point-right.result.0 = search rules in
    let t : FitsSigned w64 c.point-right.result.1 = search rules in
    let xlo : FitsSigned w64 c.ends-xlo.result.0 = search rules in
    let xhi : FitsSigned w64 c.ends-xlo.result.1 = search rules in
    let ylo : FitsSigned w64 c.ends-ylo.result.0 = search rules in
    let yhi : FitsSigned w64 c.ends-ylo.result.1 = search rules in
    rect_image-from_corners c.args.self.now c.args.r c.turns_x.result c.turns_y.result _ _ _ _ _ _ _ _ _ _ _ _
    c.turns_x.ensures c.turns_y.ensures
    (omega (arith, ints)) (omega (arith, ints)) (omega (arith, ints)) (omega (arith, ints))
    (to_z-of_z w64 c.point-left.result.0 l ∙ c.point-left.ensures.across) (to_z-of_z w64 c.point-left.result.1 b ∙ c.point-left.ensures.up)
    (to_z-of_z w64 c.point-right.result.0 r ∙ c.point-right.ensures.across) (to_z-of_z w64 c.point-right.result.1 t ∙ c.point-right.ensures.up)
    (to_z-of_z w64 c.ends-xlo.result.0 xlo ∙ c.ends-xlo.ensures.low) (to_z-of_z w64 c.ends-xlo.result.1 xhi ∙ c.ends-xlo.ensures.high)
    (to_z-of_z w64 c.ends-ylo.result.0 ylo ∙ c.ends-ylo.ensures.low) (to_z-of_z w64 c.ends-ylo.result.1 yhi ∙ c.ends-ylo.ensures.high)

pub returns-clause-squares : goal.returns-clause-squares
returns-clause-squares c = λ s.
    let P : Rect → Type 0 = λ r. Covers c.args.r s ↔ Covers r (image c.args.self.now s) in
    subst P (sym (returns-clause-value c)) (rect_image-covers c.args.self.now c.args.r s, rect_image-covered c.args.self.now c.args.r s)
