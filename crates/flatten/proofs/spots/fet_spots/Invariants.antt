use Rattle.flatten.proofs.Common.{take, AreFetSpotsOf}
use Rattle.flatten.proofs.spots.fet_spots.Given as goal

abbrev pub invariant-loop-fet : goal.invariant-loop-fet
invariant-loop-fet l = AreFetSpotsOf l.names l.cell (take l.fet-index l.fets) l.spots.items
