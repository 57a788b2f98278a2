use Rattle.flatten.proofs.Common.{take, AreJoined}
use Rattle.flatten.proofs.sides.joined_sides.Given as goal

abbrev pub invariant-loop-side : goal.invariant-loop-side
invariant-loop-side l = AreJoined (take l.side-index l.side-items) l.joined.items
