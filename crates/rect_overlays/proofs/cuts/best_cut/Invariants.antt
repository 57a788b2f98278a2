use Rattle.rect_overlays.proofs.Common.{IsInside}
use Rattle.rect_overlays.proofs.cuts.best_cut.Given as goal

-- the best so far cuts the area
abbrev pub invariant-loop-rect : goal.invariant-loop-rect
invariant-loop-rect l = IsInside l.area l.best

abbrev pub invariant-loop-cut : goal.invariant-loop-cut
invariant-loop-cut l = IsInside l.area l.best
