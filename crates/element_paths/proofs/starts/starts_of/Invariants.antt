use Rattle.element_paths.proofs.Common.{◌-◌, length, tree_at, seen, view_at}
use Rattle.std.proofs.Common.{vec_len}
use Rattle.element_paths.proofs.StartLaws.{AreFirstStarts}
use Rattle.element_paths.proofs.starts.starts_of.Given as goal

abbrev pub invariant-loop-used : goal.invariant-loop-used
invariant-loop-used l = AreFirstStarts (tree_at (seen l.library)) (view_at (seen l.library) l.cell.0).uses l.starts.items l.start

abbrev pub decreases-loop-used : goal.decreases-loop-used
decreases-loop-used l = length (view_at (seen l.library) l.cell.0).uses - vec_len l.starts
