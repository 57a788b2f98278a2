use Rattle.std.proofs.Common.{ℕ, get_or, refl, subst, below_more, arith}
use Rattle.std.proofs.lemmas.List.{get_or_default}
use Rattle.interact.specs.NearBoxes.{IsNearBox}
use Rattle.extraction_tests.proofs.box_tests.are_boxes.Goals as goal

pub loop-area-preserved : goal.loop-area-preserved
loop-area-preserved c =
    let areas = c.args.areas.now in
    let i = c.loop-area.area-index in
    λ k d. below_more (λ (m : ℕ). IsNearBox (get_or areas m d)) i (λ m. c.loop-area.invariant m d)
    (subst IsNearBox (get_or_default areas i _ d (omega arith)) (c.if-not-is_box.ensures refl)) k
