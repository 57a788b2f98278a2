use Rattle.tile_members.proofs.Common.{sym, subst, MovesInReach}
use Rattle.element_paths.proofs.CellLibrary.RowSpots.{inverted_in_reach}
use Rattle.tile_members.proofs.opened_cells.own_corner.Goals as goal

pub square-requires-clause-moves : goal.square-requires-clause-moves
square-requires-clause-moves c =
    subst MovesInReach (sym c.inverse.ensures.value) (inverted_in_reach c.args.tile.now.to_cell c.requires.moves)
