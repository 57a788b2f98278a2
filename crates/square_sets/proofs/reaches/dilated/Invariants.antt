use Rattle.square_sets.proofs.Common.{◌≡◌, take, map, grown}
use Rattle.square_sets.proofs.reaches.dilated.Given as goal

-- the rectangles so far are grown
abbrev pub invariant-loop-area : goal.invariant-loop-area
invariant-loop-area l = l.found.items ≡ map (grown l.low l.high) (take l.area-index l.rects)
