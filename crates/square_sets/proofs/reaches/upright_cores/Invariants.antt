use Rattle.square_sets.proofs.Common.{◌≡◌, take, map, has_square, upright_core}
use Rattle.std.proofs.Common.{filter}
use Rattle.square_sets.proofs.reaches.upright_cores.Given as goal

-- what is left of the rectangles so far
abbrev pub invariant-loop-area : goal.invariant-loop-area
invariant-loop-area l = l.found.items ≡ filter has_square (map (upright_core l.low l.high) (take l.area-index l.rects))
