-- The square that is made is the image, and what is said of it are laws of images.
use Rattle.geo_core.proofs.Common.{◌↔◌, sym, ◌∙◌, arith, rules, subst, ints, to_z-of_z, w64, FitsSigned, Square, AreEdgeNeighbours}
use Rattle.geo_core.specs.Images.{image}
use Rattle.geo_core.proofs.ImageLaws.{image-from_corners, image-centre, image-injective, neighbours-image, image-neighbours}
use Rattle.geo_core.proofs.transforms.Transform.square.Goals as goal

pub returns-clause-value : goal.returns-clause-value
returns-clause-value c =
    let l : FitsSigned w64 c.point-left.result.0 = search rules in
    let b : FitsSigned w64 c.point-left.result.1 = search rules in
    let r : FitsSigned w64 c.point-right.result.0 = search rules in
    let t : FitsSigned w64 c.point-right.result.1 = search rules in
    let x : FitsSigned w64 c.min.result = search rules in
    let y : FitsSigned w64 c.min-2.result = search rules in
    image-from_corners c.args.self.now c.args.s _ _ _ _ _ _ _ _ _ _
    (omega (arith, ints)) (omega (arith, ints)) (omega (arith, ints)) (omega (arith, ints))
    (to_z-of_z w64 c.point-left.result.0 l ∙ c.point-left.ensures.across) (to_z-of_z w64 c.point-left.result.1 b ∙ c.point-left.ensures.up)
    (to_z-of_z w64 c.point-right.result.0 r ∙ c.point-right.ensures.across) (to_z-of_z w64 c.point-right.result.1 t ∙ c.point-right.ensures.up)
    (to_z-of_z w64 c.min.result x ∙ c.min.ensures.value) (to_z-of_z w64 c.min-2.result y ∙ c.min-2.ensures.value)

pub returns-clause-centre : goal.returns-clause-centre
returns-clause-centre c = rw (returns-clause-value c) (image-centre c.args.self.now c.args.s)

pub returns-clause-one_to_one : goal.returns-clause-one_to_one
returns-clause-one_to_one c = λ q same. image-injective c.args.self.now q c.args.s (same ∙ returns-clause-value c)

pub returns-clause-neighbours : goal.returns-clause-neighbours
returns-clause-neighbours c = λ q.
    let P : Square → Type 0 = λ r. AreEdgeNeighbours c.args.s q ↔ AreEdgeNeighbours r (image c.args.self.now q) in
    subst P (sym (returns-clause-value c)) (neighbours-image c.args.self.now c.args.s q, image-neighbours c.args.self.now c.args.s q)
