-- The tiles below the index are added.
use Rattle.cell_paint.proofs.Common.{◌≡◌, ◌++◌, map, take}
use Rattle.cell_paint.proofs.restorations.add_numbered.Given as goal

abbrev pub invariant-loop-tile : goal.invariant-loop-tile
invariant-loop-tile l = l.taken.items ≡ l.fn.taken.items ++ map (λ tile. (l.plane, tile)) (take l.tile-index l.tiles)
