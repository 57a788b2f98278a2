use Rattle.meeting_sums.proofs.Common.{take, AreColumns}
use Rattle.meeting_sums.proofs.columns.columns_of.Given as goal

abbrev pub invariant-loop-class : goal.invariant-loop-class
invariant-loop-class l = AreColumns (take l.class-index l.classes) l.stacks l.contacts l.groups l.count l.columns.items
