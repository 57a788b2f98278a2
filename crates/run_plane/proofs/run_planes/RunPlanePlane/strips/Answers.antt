use Rattle.run_plane.proofs.Common.{◌^◌, pos, List, get_or, subst, In-get_or, PLANE_EDGE, Piece, HasValue, IsStrips, Row, edge, number_at, Contents}
use Rattle.run_plane.proofs.Common.{AreBetween, IsInPieces}
use Rattle.run_plane.proofs.BoxLaws.{strip_near}
use Rattle.run_plane.proofs.PlaneLaws.{strips_of_rows}
use Rattle.run_plane.proofs.run_planes.RunPlanePlane.strips.Goals as goal

pub returns-clause-strips : goal.returns-clause-strips
returns-clause-strips c =
    let rows = c.self.inside.rows.items in
    let pieces = c.in_ok-pieces.pieces.items in
    let found = c.in_ok-strips_of.field-0.items in
    let between : AreBetween rows edge PLANE_EDGE pieces = subst (λ (v : List Row). AreBetween v edge PLANE_EDGE pieces) c.as_slice.ensures.value
    c.in_ok-pieces.ensures in
    let strips : IsStrips (IsInPieces pieces c.args.value) found = subst (λ (v : List Piece). IsStrips (IsInPieces v c.args.value) found)
    c.as_slice-2.ensures.value c.in_ok-strips_of.ensures in
    subst (λ (held : Contents). IsStrips (HasValue (number_at held.rows) c.args.value) found) c.self.view_is
    (strips_of_rows rows pieces c.args.value found c.self.invariant.now between c.requires strips)

pub returns-clause-near : goal.returns-clause-near
returns-clause-near c =
    let rows = c.self.inside.rows.items in
    let pieces = c.in_ok-pieces.pieces.items in
    let found = c.in_ok-strips_of.field-0.items in
    let between : AreBetween rows edge PLANE_EDGE pieces = subst (λ (v : List Row). AreBetween v edge PLANE_EDGE pieces) c.as_slice.ensures.value
    c.in_ok-pieces.ensures in
    let strips : IsStrips (IsInPieces pieces c.args.value) found = subst (λ (v : List Piece). IsStrips (IsInPieces v c.args.value) found)
    c.as_slice-2.ensures.value c.in_ok-strips_of.ensures in
    let of_rows = strips_of_rows rows pieces c.args.value found c.self.invariant.now between c.requires strips in
    λ k d within. strip_near rows c.args.value (get_or found k d) c.self.invariant.now c.requires (of_rows.each (get_or found k d) (In-get_or found k d within))
