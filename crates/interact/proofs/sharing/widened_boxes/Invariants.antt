use Rattle.interact.proofs.Common.{◌≡◌, take, map, widened}
use Rattle.interact.proofs.sharing.widened_boxes.Given as goal

-- the boxes so far are grown
abbrev pub invariant-loop-area : goal.invariant-loop-area
invariant-loop-area l = l.found.items ≡ map widened (take l.area-index l.boxes)
