use Rattle.drc_check.proofs.Common.{◌≡◌, take, member_union}
use Rattle.drc_check.proofs.pieces.union_of.Given as goal

abbrev pub invariant-loop-member : goal.invariant-loop-member
invariant-loop-member l = l.all ≡ member_union l.sets (take l.member-index l.members)
