use Rattle.cell_library.proofs.Common.{Some}
use Rattle.cell_library.proofs.BoxSteps.{box_fits}
use Rattle.cell_library.proofs.painting.set_box.Goals as goal

pub unreachable-requires : goal.unreachable-requires
unreachable-requires c = box_fits c.args.tree.now c.args.cell (Some c.args.own) _ c.lawful.ensures c.requires.cell c.requires.fits c.in-Err.ensures.refused
