use Rattle.cell_library.proofs.PutBackUses.{regridded_lawful, regridded_unrefused}
use Rattle.cell_library.proofs.uses.regrid.Goals as goal

pub set_use-requires-clause-grid : goal.set_use-requires-clause-grid
set_use-requires-clause-grid c =
    regridded_lawful c.args.tree.now c.args.cell c.args.id.now c.args.grid c.requires.may c.requires.cell c.in_ok-k.k c.in_ok-k.used c.in_ok-k.ensures.found

pub unreachable-requires : goal.unreachable-requires
unreachable-requires c =
    regridded_unrefused c.args.tree.now c.args.cell c.args.id.now c.args.grid c.requires.may c.requires.cell c.in_ok-k.k c.in_ok-k.used c.in_ok-k.ensures.found
    c.in-Err.field-0 c.in-Err.ensures.fault
