use Rattle.flatten.proofs.Common.{map, take, AreSpotsOf}
use Rattle.flatten.proofs.spots.terminal_spots.Given as goal

abbrev pub invariant-loop-side : goal.invariant-loop-side
invariant-loop-side l = AreSpotsOf l.names l.cell (map (λ side. side.node) (take l.side-index l.terminals)) l.spots.items
