use Rattle.piece_groups.proofs.Common.{AreLinkedFrom, marks_of}
use Rattle.piece_groups.proofs.links.link.Given as goal

abbrev pub invariant-loop-place : goal.invariant-loop-place
invariant-loop-place l = AreLinkedFrom (marks_of l.members.items) l.marks l.place l.firsts.items l.nexts.items
