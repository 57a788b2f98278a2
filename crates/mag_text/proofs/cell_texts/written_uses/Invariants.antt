-- The uses before the next one are written.
use Rattle.mag_text.proofs.Common.{take, seen, view_at, AreWrittenUses}
use Rattle.mag_text.proofs.cell_texts.written_uses.Given as goal

abbrev pub invariant-loop-k : goal.invariant-loop-k
invariant-loop-k l = AreWrittenUses (seen l.library) (take l.k (view_at (seen l.library) l.cell.0).uses) l.uses.items
