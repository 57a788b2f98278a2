use Rattle.cell_library.proofs.Common.{◌∙◌, length, sym, subst, Rect, layout_of, space_past, held_at, OwnBoxIs}
use Rattle.std.specs.Prelude.{Option}
use Rattle.cell_library.proofs.InnerAreas.{box_stays}
use Rattle.cell_library.proofs.own_restorations.box_after.Goals as goal

pub returns-then-is_inside : goal.returns-then-is_inside
returns-then-is_inside c =
    let held = held_at c.args.contents.now c.args.cell in
    let before = c.requires.before in
    let is = subst (λ (box : Option Rect). OwnBoxIs before.layout before.labels_before box) (sym c.own_box.ensures ∙ c.in-Some.is) before.is in
    box_stays c.args.area.now c.in-Some.old (sym c.is_inside.ensures ∙ c.if-is_inside.true) before.layout (layout_of held.paint) before.labels_before
    held.labels is before.agrees before.came before.went (length held.paint.planes)
    (λ place past. space_past held.paint.planes place.plane place.square past)
