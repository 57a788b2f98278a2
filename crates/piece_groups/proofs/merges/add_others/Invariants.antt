use Rattle.piece_groups.proofs.Common.{◌-◌, length, merge_of, name_at, adjustment_of}
use Rattle.piece_groups.proofs.WalkLaws.{IsUpTo}
use Rattle.piece_groups.proofs.merges.add_others.Given as goal

abbrev pub invariant-loop-other : goal.invariant-loop-other
invariant-loop-other l =
    IsUpTo l.linked.members.items (λ other. merge_of (name_at l.linked.members.items l.first) other (adjustment_of l.nothing)) l.second l.place
    l.initial.merges.items l.merges.items

abbrev pub decreases-loop-other : goal.decreases-loop-other
decreases-loop-other l = length l.linked.members.items - l.place
