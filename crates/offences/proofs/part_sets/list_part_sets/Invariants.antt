use Rattle.offences.proofs.SumLaws.{AreSumsUpTo}
use Rattle.offences.proofs.part_sets.list_part_sets.Given as goal

abbrev pub invariant-loop-member : goal.invariant-loop-member
invariant-loop-member l = AreSumsUpTo l.tiles l.members l.member-index l.sums.items l.sum
