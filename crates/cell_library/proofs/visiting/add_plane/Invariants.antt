use Rattle.cell_library.proofs.Common.{◌≡◌, ◌++◌, map, take, tile_at}
use Rattle.cell_library.proofs.visiting.add_plane.Given as goal

abbrev pub invariant-loop-piece : goal.invariant-loop-piece
invariant-loop-piece l = l.tiles.items ≡ l.fn.tiles.items ++ map (tile_at l.spot l.plane) (take l.piece-index l.piece-items)
