use Rattle.cell_library.proofs.BoxSteps.{box_passes}
use Rattle.cell_library.proofs.own_restorations.give_box.Goals as goal

pub unreachable-requires : goal.unreachable-requires
unreachable-requires c = c.requires.fits (box_passes c.args.tree.now c.args.cell c.args.own _ c.in-Err.ensures.refused)
