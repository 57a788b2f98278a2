use Rattle.rect_overlays.proofs.Common.{take, AddsSingles}
use Rattle.rect_overlays.proofs.singles.push_singles.Given as goal

-- each member so far has a stack
abbrev pub invariant-loop-member : goal.invariant-loop-member
invariant-loop-member l = AddsSingles l.rects l.area (take l.member-index l.members) l.initial.stacks.items l.stacks.items
