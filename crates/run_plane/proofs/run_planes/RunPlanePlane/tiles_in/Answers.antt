use Rattle.run_plane.proofs.Common.{List, subst, rules, Piece, AreTilesIn, Row, number_at, Contents, AreBetween, AreTilesFrom}
use Rattle.run_plane.proofs.PlaneLaws.{tiles_of_rows}
use Rattle.run_plane.proofs.run_planes.RunPlanePlane.tiles_in.Goals as goal

pub returns-clause-tiles : goal.returns-clause-tiles
returns-clause-tiles c =
    let rows = c.self.inside.rows.items in
    let area = c.args.area in
    let pieces = c.in_ok-pieces.pieces.items in
    let found = c.in_ok-tiles_of.field-0.items in
    let given : AreBetween c.as_slice.result.now area.ylo area.yhi pieces = search rules in
    let between : AreBetween rows area.ylo area.yhi pieces = subst (λ (v : List Row). AreBetween v area.ylo area.yhi pieces) c.as_slice.ensures.value given in
    let tiles : AreTilesFrom pieces area found = subst (λ (v : List Piece). AreTilesFrom v area found) c.as_slice-2.ensures.value c.in_ok-tiles_of.ensures in
    subst (λ (held : Contents). AreTilesIn (number_at held.rows) area found) c.self.view_is
    (tiles_of_rows rows area pieces found c.self.invariant.now between tiles)
