use Rattle.cell_paint.proofs.Common.{◌≡◌, ◌∷◌, ◌++◌, ◌∙◌, ◌+◌, ℕ, List, [], length, length-append, sym, ap, subst, arith, Place, PlaneValue}
use Rattle.cell_paint.proofs.Common.{layout_on}
use Rattle.cell_paint.proofs.PlaneLaws.{space_past, empty_more}
use Rattle.cell_paint.proofs.paints.empty_planes.Goals as goal

pub loop-init : goal.loop-init
loop-init c =
    let none : c.in_ok-planes.planes.items ≡ [] = c.in_ok-planes.ensures.items in record {
      long = ap length none;
      empty = λ place. space_past c.in_ok-planes.planes.items place.plane place.square
          (let long : length c.in_ok-planes.planes.items ≡ 0 = ap length none in omega arith);
    }

pub loop-preserved : goal.loop-preserved
loop-preserved c =
    let before = c.loop.planes.items in
    let new = c.in_ok-plane.plane in
    let after : c.add_plane.new.planes.items ≡ before ++ new ∷ [] = c.in_ok-add_plane.ensures in record {
      long = ap length after ∙ length-append before (new ∷ []) ∙ ap (λ (n : ℕ). n + 1) c.loop.invariant.long;
      empty = subst (λ (planes : List PlaneValue). (place : Place) → layout_on planes place ≡ 0) (sym after)
          (empty_more before new c.loop.invariant.empty c.in_ok-plane.ensures.space);
    }
