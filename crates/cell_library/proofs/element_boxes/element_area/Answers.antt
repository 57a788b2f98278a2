use Rattle.cell_library.proofs.Common.{◌≡◌, ℕ, ℤ, sym, Some, slice_get, Grid, Rect, elements_of, rect_is, SpansInRange, IsLawfulGrid}
use Rattle.cell_library.proofs.GridSteps.{element_is_near, element_moved, moves_to, MovesTo}
use Rattle.cell_library.proofs.element_boxes.element_area.Goals as goal

-- Each side of the hull is displaced with the element.
record SidesMove (hull : Rect) (element : ℤ × ℤ × ℤ × ℤ) : Type 0 where
  xlo : MovesTo hull.xlo element.2
  ylo : MovesTo hull.ylo element.3
  xhi : MovesTo hull.xhi element.2
  yhi : MovesTo hull.yhi element.3

sides_move : (grid : Grid) (k : ℕ) (element : ℤ × ℤ × ℤ × ℤ) (hull : Rect) → SpansInRange hull → IsLawfulGrid grid
    → slice_get (elements_of grid) k ≡ Some element → SidesMove hull element
sides_move grid k element hull spans lawful is =
    let near = element_is_near grid k element lawful is in
    record {
      xlo = moves_to hull.xlo element.2 spans.xlo near.0;
      ylo = moves_to hull.ylo element.3 spans.ylo near.1;
      xhi = moves_to hull.xhi element.2 spans.xhi near.0;
      yhi = moves_to hull.yhi element.3 spans.yhi near.1;
    }

pub overflow_add-result : goal.overflow_add-result
overflow_add-result c = (sides_move _ _ c.element-dx.result _ c.requires.hull c.requires.grid c.element-dx.ensures.nth).xlo.fits

pub overflow_add-result-2 : goal.overflow_add-result-2
overflow_add-result-2 c = (sides_move _ _ c.element-dx.result _ c.requires.hull c.requires.grid c.element-dx.ensures.nth).ylo.fits

pub overflow_add-result-3 : goal.overflow_add-result-3
overflow_add-result-3 c = (sides_move _ _ c.element-dx.result _ c.requires.hull c.requires.grid c.element-dx.ensures.nth).xhi.fits

pub overflow_add-result-4 : goal.overflow_add-result-4
overflow_add-result-4 c = (sides_move _ _ c.element-dx.result _ c.requires.hull c.requires.grid c.element-dx.ensures.nth).yhi.fits

pub returns-clause-area : goal.returns-clause-area
returns-clause-area c =
    let moved = sides_move _ _ c.element-dx.result c.args.hull c.requires.hull c.requires.grid c.element-dx.ensures.nth in
    element_moved c.args.grid.now c.args.hull _ c.args.k c.element-dx.result c.element-dx.ensures.nth
    (rect_is _ _ (sym moved.xlo.is) (sym moved.ylo.is) (sym moved.xhi.is) (sym moved.yhi.is))

pub returns-clause-reach : goal.returns-clause-reach
returns-clause-reach c =
    let moved = sides_move _ _ c.element-dx.result c.args.hull c.requires.hull c.requires.grid c.element-dx.ensures.nth in
    record { xlo = moved.xlo.reach; ylo = moved.ylo.reach; xhi = moved.xhi.reach; yhi = moved.yhi.reach }
