use Rattle.cell_library.proofs.UseSearches.{IsSearchedTo}
use Rattle.cell_library.proofs.use_trees.UseTree.spots_below.Given as goal

abbrev pub invariant-loop-k : goal.invariant-loop-k
invariant-loop-k l = IsSearchedTo l.tree l.part_step l.spot l.back l.k-items l.k-index l.found.items
