use Rattle.names.proofs.Common.{key_at, AreGroupsBy}
use Rattle.names.proofs.groups.grouped.Given as goal

abbrev pub invariant-loop-member : goal.invariant-loop-member
invariant-loop-member l = AreGroupsBy (key_at l.keys) l.member l.count l.groups.items
