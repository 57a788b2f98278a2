use Rattle.drc_check.proofs.Common.{◌≡◌, ◌++◌, map, take, violation_of}
use Rattle.drc_check.proofs.checking.add_strips.Given as goal

abbrev pub invariant-loop-area : goal.invariant-loop-area
invariant-loop-area l = l.found.items ≡ l.fn.found.items ++ map (violation_of l.number l.plane) (take l.area-index l.strips)
