use Rattle.cell_library.proofs.Common.{sym}
use Rattle.cell_library.proofs.ArrivingUses.{never_unplaced}
use Rattle.cell_library.proofs.additions.placing_of.Goals as goal

pub unreachable-requires : goal.unreachable-requires
unreachable-requires c = never_unplaced c.args.six c.requires (sym c.in-None.ensures.is)
