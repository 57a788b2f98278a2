use Rattle.cell_paint.proofs.Common.{◌≡◌, ◌<◌, ◌∙◌, List, length, refl, sym, ap, subst, rules, TypeId, type_on, IsColumn, kind_after, kinds_on}
use Rattle.cell_paint.proofs.Common.{layout_on}
use Rattle.tech_model.specs.Columns.{brushed_column}
use Rattle.cell_paint.proofs.ChangeLaws.{known_more}
use Rattle.cell_paint.proofs.ColumnsLaws.{squares_change_alike}
use Rattle.cell_paint.proofs.changes.value_after.Goals as goal

pub kind_after-value-requires-clause-types : goal.kind_after-value-requires-clause-types
kind_after-value-requires-clause-types c =
    let raw = c.args.stroke.now.tech.now in
    subst (λ (column : List TypeId). IsColumn raw column) (sym c.column_at.ensures) (c.requires.whole.sound.types raw refl c.corner.result).0

pub returns-clause-known : goal.returns-clause-known
returns-clause-known c =
    let raw = c.args.stroke.now.tech.now in
    let brush = c.args.stroke.now.brush in
    let layer = c.args.stroke.now.layer.0 in
    let layout = layout_on c.args.planes.now in
    let plane = c.args.plane in
    let change : List TypeId → List TypeId = brushed_column raw brush layer in
    let value : c.kind_after-value.result ≡ kind_after change layout plane c.corner.result =
    c.kind_after-value.ensures.kind ∙ ap (λ (column : List TypeId). type_on (change column) plane) c.column_at.ensures in
    let corner : kinds_on layout plane c.corner.result ≡ c.args.piece.now.value = ap (kinds_on layout plane) c.corner.ensures ∙ c.requires.even in
    let inside : c.from-index.result < length c.args.known.now = search rules in
    known_more (kinds_on layout plane) (kind_after change layout plane) c.args.known.now c.from-index.result c.kind_after-value.result inside
    (λ square at.
    squares_change_alike brush raw layer c.raw.ensures.well_formed c.requires.layer layout c.requires.whole.sound.types plane c.requires.plane square
    c.corner.result
    (at ∙ c.from-index.ensures ∙ sym corner)
    ∙ sym value) c.requires.known
