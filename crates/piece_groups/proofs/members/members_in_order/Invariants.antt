use Rattle.piece_groups.proofs.MemberLaws.{AreCollected}
use Rattle.piece_groups.proofs.members.members_in_order.Given as goal

abbrev pub invariant-loop-number : goal.invariant-loop-number
invariant-loop-number l = AreCollected l.names l.marks l.number l.members.items
