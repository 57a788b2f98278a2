use Rattle.cell_paint.proofs.Common.{◌≡◌, ◌∙◌, ◌++◌, List, map, ap, subst, arith, get_or_default, Piece, AreTilesIn, kinds_on, PlaneValue, number_on}
use Rattle.cell_paint.proofs.Common.{no_plane, layout_on}
use Rattle.cell_paint.proofs.PieceLaws.{all_taken, taken_more}
use Rattle.cell_paint.proofs.PlaneLaws.{space_past}
use Rattle.cell_paint.proofs.restorations.tiles_of_all.Goals as goal

pub loop-plane-preserved : goal.loop-plane-preserved
loop-plane-preserved c =
    let planes = c.args.planes.now in
    let plane = c.loop-plane.plane in
    let tiles = c.in_ok-tiles.tiles.items in
    let taken = c.loop-plane.taken.items in
    let are : AreTilesIn (kinds_on (layout_on planes) plane) c.args.area tiles =
    subst (λ (at : PlaneValue). AreTilesIn (number_on at) c.args.area tiles)
    (c.index-planes-plane.is ∙ get_or_default planes plane c.index-planes-plane.result no_plane c.loop-plane-test.true) c.in_ok-tiles.ensures.tiles in
    let after : c.add_numbered.new.taken.items ≡ taken ++ map (λ tile. (plane, tile)) tiles =
    c.in_ok-add_numbered.ensures ∙ ap (λ (list : List Piece). taken ++ map (λ (tile : Piece). (plane, tile)) list) c.as_slice.ensures.value in
    taken_more (layout_on planes) c.args.area plane taken tiles c.loop-plane.invariant c.add_numbered.new.taken.items after are

pub returns-clause-taken : goal.returns-clause-taken
returns-clause-taken c =
    let planes = c.args.planes.now in
    all_taken (layout_on planes) c.args.area c.loop-plane.plane c.loop-plane.taken.items
    (λ place past. space_past planes place.plane place.square (omega (arith, past, c.loop-plane-test.false))) c.loop-plane.invariant
