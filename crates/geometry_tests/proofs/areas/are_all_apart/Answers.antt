use Rattle.std.proofs.Common.{◌≡◌, ℕ, get_or, inl, inr, refl, subst, below_more, arith}
use Rattle.std.proofs.lemmas.Bool.{cases_lt}
use Rattle.std.proofs.lemmas.List.{get_or_default}
use Rattle.geo_core.specs.declared.squares.Rect.{Rect}
use Rattle.geo_core.specs.Areas.{AreDisjoint}
use Rattle.rect_contacts.specs.Rects.{no_rect}
use Rattle.geometry_tests.proofs.areas.are_all_apart.Goals as goal

pub loop-earlier-preserved : goal.loop-earlier-preserved
loop-earlier-preserved c =
    let rects = c.args.rects.now in
    let i = c.loop-earlier.earlier in
    let j = c.loop-later.later in
    record {
      before = c.loop-earlier.invariant.before;
      here = λ k d. below_more (λ (m : ℕ). AreDisjoint (get_or rects m d) (get_or rects j d)) i (λ m. c.loop-earlier.invariant.here m d)
          (subst (λ (x : Rect). AreDisjoint x (get_or rects j d)) (get_or_default rects i no_rect d (omega arith))
          (subst (λ (y : Rect). AreDisjoint (get_or rects i no_rect) y) (get_or_default rects j no_rect d (omega arith)) (c.if-not-are_apart.ensures refl))) k;
    }

pub loop-later-preserved : goal.loop-later-preserved
loop-later-preserved c = λ i j d less below.
    let rects = c.args.rects.now in
    elim (cases_lt j c.loop-later.later) [
      | inl before ↦ c.loop-later.invariant i j d less before
      | inr after ↦
          let here : c.loop-later.later ≡ j = omega arith in
          subst (λ (m : ℕ). AreDisjoint (get_or rects i d) (get_or rects m d)) here (c.loop-earlier.invariant.here i d (omega arith))
    ]
