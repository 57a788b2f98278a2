use Rattle.cell_paint.proofs.Common.{List, length, sym, ◌∙◌, ap, subst, TypeRec, RawTech, AreCellPlanes}
use Rattle.cell_paint.proofs.PaintLaws.{whole_empty}
use Rattle.cell_paint.proofs.paints.CellPaint.new.Goals as goal

pub invariant_of-result : goal.invariant_of-result
invariant_of-result c =
    let raw = c.args.tech.now in
    let planes = c.in_ok-planes.planes in
    let kinds = c.of-kinds.ensures ∙ c.in_ok-from_slice.ensures.items ∙ c.items.ensures ∙ ap (λ (r : RawTech). r.types) c.raw-raw.ensures.value in
    let long = sym planes.ok.0 ∙ c.in_ok-planes.ensures.count ∙ ap length (c.items-2.ensures ∙ ap (λ (r : RawTech). r.planes) c.raw-raw.ensures.value) in
    subst (λ (types : List TypeRec). AreCellPlanes types planes.items) (sym kinds) (whole_empty raw planes.items c.raw-raw.ensures.well_formed long
    c.in_ok-planes.ensures.empty)
