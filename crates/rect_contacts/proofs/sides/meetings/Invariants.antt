use Rattle.rect_contacts.proofs.Common.{◌+◌, length, drop}
use Rattle.std.proofs.Common.{◌-◌}
use Rattle.rect_contacts.proofs.Sweep.{Swept}
use Rattle.rect_contacts.proofs.sides.meetings.Given as goal

abbrev pub invariant-loop-below : goal.invariant-loop-below
invariant-loop-below l = Swept l.lowers l.uppers (drop l.below l.lowers) (drop l.above l.uppers) l.contacts.items

abbrev pub decreases-loop-below : goal.decreases-loop-below
decreases-loop-below l = (length l.lowers - l.below) + (length l.uppers - l.above)
