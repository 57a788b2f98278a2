-- The rectangle is that for the rows before the index.
use Rattle.run_plane.proofs.BoxLaws.{BoxUpTo}
use Rattle.run_plane.proofs.listings.box_of.Given as goal

abbrev pub invariant-loop-index : goal.invariant-loop-index
invariant-loop-index l = BoxUpTo l.rows l.index l.found
