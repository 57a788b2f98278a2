use Rattle.rect_overlays.proofs.Common.{take, IsGathered}
use Rattle.rect_overlays.proofs.stacks.gather.Given as goal

-- what the members so far have of either half is gathered
abbrev pub invariant-loop-member : goal.invariant-loop-member
invariant-loop-member l = record {
  low : IsGathered l.rects (take l.member-index l.members) l.low_area l.halves.low;
  high : IsGathered l.rects (take l.member-index l.members) l.high_area l.halves.high;
}
