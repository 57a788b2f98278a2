use Rattle.cif_expansion.proofs.Common.{take, IsDrawn}
use Rattle.cif_expansion.proofs.drawing.Drawing.draw_items.Given as goal

abbrev pub invariant-loop-item : goal.invariant-loop-item
invariant-loop-item l = IsDrawn (take l.item-index l.items) l.placements l.initial.self.boxes.items l.self.boxes.items
    l.initial.self.waiting.items l.self.waiting.items
