use Rattle.rect_overlays.proofs.Common.{range_with_len, IsWholeOf}
use Rattle.rect_overlays.proofs.regions.Regions.around.Given as goal

-- the rectangles so far that have squares are gathered
abbrev pub invariant-loop-index : goal.invariant-loop-index
invariant-loop-index l = IsWholeOf l.rects (range_with_len 0 l.index) l.whole
