use Rattle.rect_overlays.proofs.Common.{take, AreApart}
use Rattle.rect_overlays.proofs.singles.lie_apart.Given as goal

-- the members so far lie apart
abbrev pub invariant-loop-index : goal.invariant-loop-index
invariant-loop-index l = AreApart l.rects (take l.index l.members)
