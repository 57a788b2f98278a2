use Rattle.cif_expansion.proofs.DrawnLaws.{drawn_as_area, drawn_as_call}
use Rattle.cif_expansion.proofs.drawing.Drawing.draw_item.Goals as goal

pub returns-in_ok-draw_area-in-Area-clause-drawn : goal.returns-in_ok-draw_area-in-Area-clause-drawn
returns-in_ok-draw_area-in-Area-clause-drawn c =
    let ensures = c.in_ok-draw_area-in-Area.ensures in
    drawn_as_area c.args.item.now c.in-Area.layer c.in-Area.area c.args.placements.now _ _ _ _ c.in-Area.is c.requires.lawful ensures.drawn ensures.kept
    ensures.in_range

pub returns-in_ok-draw_call-in-Call-clause-drawn : goal.returns-in_ok-draw_call-in-Call-clause-drawn
returns-in_ok-draw_call-in-Call-clause-drawn c =
    let ensures = c.in_ok-draw_call-in-Call.ensures in
    drawn_as_call c.args.item.now c.in-Call.symbol c.in-Call.moves c.items.result.now c.args.placements.now _ _ _ _ c.in-Call.is c.items.ensures
    c.requires.lawful ensures.drawn ensures.kept ensures.reach
