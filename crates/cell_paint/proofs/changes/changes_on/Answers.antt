use Rattle.cell_paint.proofs.Common.{◌≡◌, ◌<◌, ◌∙◌, List, sym, ap, subst, arith, All, Square, Piece, corner_of, MOST_PLANES, TypeId, kind_after}
use Rattle.cell_paint.proofs.Common.{changed_pieces, kinds_on, with_columns_where, is_in_some, layout_on, AreChanges}
use Rattle.tech_model.specs.Columns.{brushed_column}
use Rattle.cell_paint.proofs.ChangeLaws.{corners_even, found_changes, pieces_on_plane}
use Rattle.cell_paint.proofs.ColumnsLaws.{squares_change_alike}
use Rattle.cell_paint.proofs.changes.changes_on.Goals as goal

pub changed-requires-clause-even : goal.changed-requires-clause-even
changed-requires-clause-even c =
    let values = kinds_on (layout_on c.args.planes.now) c.args.plane in
    let pieces = c.in_ok-pieces.pieces.items in
    let are = pieces_on_plane c.args.planes.now c.args.plane c.index-planes-plane.result c.args.areas.now pieces c.requires.plane c.index-planes-plane.is
    c.in_ok-pieces.ensures.pieces in
    subst (λ (list : List Piece). All (λ piece. values (corner_of piece.area) ≡ piece.value) list) (sym c.as_slice.ensures.value)
    (corners_even values c.args.areas.now pieces are)

pub returns-clause-changes : goal.returns-clause-changes
returns-clause-changes c =
    let stroke = c.args.stroke.now in
    let raw = stroke.tech.now in
    let layout = layout_on c.args.planes.now in
    let plane = c.args.plane in
    let change : List TypeId → List TypeId = brushed_column raw stroke.brush stroke.layer.0 in
    let pieces = c.in_ok-pieces.pieces.items in
    let few : plane < MOST_PLANES = omega (arith, c.requires.plane, c.requires.whole.few) in
    let are = pieces_on_plane c.args.planes.now plane c.index-planes-plane.result c.args.areas.now pieces c.requires.plane c.index-planes-plane.is
    c.in_ok-pieces.ensures.pieces in
    let alike : (s t : Square) → kinds_on layout plane s ≡ kinds_on layout plane t → kind_after change layout plane s ≡ kind_after change layout plane t =
    squares_change_alike stroke.brush raw stroke.layer.0 c.raw.ensures.well_formed c.requires.layer layout c.requires.whole.sound.types plane few in
    let found : c.in_ok-found.found.items ≡ changed_pieces (kind_after change layout plane) pieces =
    c.in_ok-found.ensures ∙ ap (changed_pieces (kind_after change layout plane)) c.as_slice.ensures.value in
    subst (λ (list : List Piece). AreChanges (kinds_on layout plane) (kinds_on (with_columns_where change (is_in_some c.args.areas.now) layout) plane) list)
    (sym found)
    (found_changes change layout plane alike c.args.areas.now pieces are)
