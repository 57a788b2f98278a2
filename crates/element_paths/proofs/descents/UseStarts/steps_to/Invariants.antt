use Rattle.element_paths.proofs.Common.{◌<◌, length, standings, tree_at, seen}
use Rattle.element_paths.specs.UseStarts.{AreStartsOf}
use Rattle.element_paths.proofs.DescentLaws.{LeadsOn}
use Rattle.element_paths.proofs.descents.UseStarts.steps_to.Given as goal

abbrev pub invariant-loop-below : goal.invariant-loop-below
invariant-loop-below l = record {
  starts : AreStartsOf (seen l.library) l.self;
  upper : l.upper.0 < length l.library.contents;
  below : l.below < length (standings (tree_at (seen l.library) l.upper.0));
  on : LeadsOn (seen l.library) l.fn.cell.0 l.fn.element l.steps.items l.upper.0 l.below;
}

abbrev pub decreases-loop-below : goal.decreases-loop-below
decreases-loop-below l = l.below
