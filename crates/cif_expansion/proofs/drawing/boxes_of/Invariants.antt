use Rattle.cif_expansion.proofs.Common.{length}
use Rattle.cif_expansion.proofs.ExpansionLaws.{IsHalfDrawn}
use Rattle.cif_expansion.proofs.drawing.boxes_of.Given as goal

abbrev pub invariant-loop-placements : goal.invariant-loop-placements
invariant-loop-placements l = IsHalfDrawn l.cif l.drawing.boxes.items l.drawing.waiting.items

abbrev pub decreases-loop-placements : goal.decreases-loop-placements
decreases-loop-placements l = length l.drawing.waiting.items
