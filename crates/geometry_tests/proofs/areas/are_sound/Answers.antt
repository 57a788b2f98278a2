use Rattle.std.proofs.Common.{ℕ, get_or, refl, subst, below_more, arith}
use Rattle.std.proofs.lemmas.List.{get_or_default}
use Rattle.geo_core.specs.Covering.{IsProper}
use Rattle.geo_core.specs.Areas.{IsNear}
use Rattle.geometry_tests.proofs.areas.are_sound.Goals as goal

pub loop-area-preserved : goal.loop-area-preserved
loop-area-preserved c =
    let rects = c.args.rects.now in
    let i = c.loop-area.area-index in
    record {
      proper = λ k d. below_more (λ (m : ℕ). IsProper (get_or rects m d)) i (λ m. c.loop-area.invariant.proper m d)
          (subst IsProper (get_or_default rects i _ d (omega arith)) (c.if-not-is_sound.ensures.proper refl)) k;
      near = λ k d. below_more (λ (m : ℕ). IsNear (get_or rects m d)) i (λ m. c.loop-area.invariant.near m d)
          (subst IsNear (get_or_default rects i _ d (omega arith)) (c.if-not-is_sound.ensures.near refl)) k;
    }
