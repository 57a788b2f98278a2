use Rattle.cell_library.proofs.Common.{sym}
use Rattle.cell_library.proofs.ArrivingUses.{never_lost}
use Rattle.cell_library.proofs.additions.position_of.Goals as goal

pub unreachable-requires : goal.unreachable-requires
unreachable-requires c = never_lost c.args.name.now c.args.contents.now c.requires (sym c.in-None.ensures)
