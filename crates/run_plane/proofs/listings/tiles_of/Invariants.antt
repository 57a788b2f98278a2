-- The tiles are those of the values so far.
use Rattle.run_plane.proofs.TileLaws.{AreTilesUpTo}
use Rattle.run_plane.proofs.listings.tiles_of.Given as goal

abbrev pub invariant-loop-below : goal.invariant-loop-below
invariant-loop-below l = AreTilesUpTo l.pieces l.area l.below l.tiles.items
