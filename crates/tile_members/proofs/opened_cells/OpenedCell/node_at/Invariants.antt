use Rattle.tile_members.proofs.OpenedLaws.{NoneOfPlane}
use Rattle.tile_members.proofs.opened_cells.OpenedCell.node_at.Given as goal

abbrev pub invariant-loop-position : goal.invariant-loop-position
invariant-loop-position l = NoneOfPlane l.self l.plane l.position-items l.position-index
