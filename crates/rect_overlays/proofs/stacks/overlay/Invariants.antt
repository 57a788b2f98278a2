use Rattle.rect_overlays.proofs.Common.{IsSplitWith}
use Rattle.rect_overlays.proofs.Weights.{weights}
use Rattle.rect_overlays.proofs.stacks.overlay.Given as goal

-- the stacks so far and the regions to come lie apart, and have all that is covered
abbrev pub invariant-loop-span : goal.invariant-loop-span
invariant-loop-span l = IsSplitWith l.rects l.regions l.stacks.items

abbrev pub decreases-loop-span : goal.decreases-loop-span
decreases-loop-span l = weights l.regions.spans.items
