use Rattle.piece_groups.proofs.Common.{[], groups_before, AddsMerges}
use Rattle.piece_groups.proofs.merges.merges_of_groups.Given as goal

abbrev pub invariant-loop-place : goal.invariant-loop-place
invariant-loop-place l = AddsMerges l.nothing (groups_before l.linked.members.items l.sums l.place) [] l.rows.items
