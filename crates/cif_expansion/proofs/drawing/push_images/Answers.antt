use Rattle.cif_expansion.proofs.Common.{sym, subst, In, In-get_or, Transform, rect_image, LiesInRange}
use Rattle.cif_expansion.proofs.StepLaws.{all_more, images_more}
use Rattle.cif_expansion.proofs.drawing.push_images.Goals as goal

pub returns-in-None-clause-refused : goal.returns-in-None-clause-refused
returns-in-None-clause-refused c =
    let placements = c.args.placements.now in
    record {
      placement = c.placement-item.result;
      is_placement = subst (λ (t : Transform). In t placements) (sym c.placement-item.is)
          (In-get_or placements c.loop-placement.placement-index c.placement-item.result c.loop-placement-test.true);
      is_outside = c.in-None.ensures;
    }

pub loop-placement-preserved : goal.loop-placement-preserved
loop-placement-preserved c =
    let placements = c.args.placements.now in
    let i = c.loop-placement.placement-index in
    record {
      pushed = images_more (λ (t : Transform). rect_image t c.args.area.now) placements i c.placement-item.result c.args.boxes.now.items _ _ _
          c.loop-placement-test.true c.placement-item.is c.loop-placement.invariant.pushed c.in_ok-push-in-Some.ensures.items (sym c.in-Some.ensures.1);
      in_range = all_more (λ (t : Transform). LiesInRange (rect_image t c.args.area.now)) placements i c.placement-item.result
          c.loop-placement-test.true c.placement-item.is c.loop-placement.invariant.in_range c.in-Some.ensures.0;
    }
