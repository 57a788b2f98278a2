use Rattle.cell_library.proofs.Common.{layout_of, new_state, held_at}
use Rattle.cell_library.proofs.ArrivingUses.{cell_may_come}
use Rattle.cell_library.proofs.additions.cell_of.Goals as goal

pub returns-clause-lawful : goal.returns-clause-lawful
returns-clause-lawful c =
    let held = held_at c.args.contents.now c.args.position in
    cell_may_come c.args.contents.now held.paint.kinds (layout_of held.paint) held.labels c.args.uses.now
    (new_state (record { own = c.box_of_own-own.result; uses = c.in_ok-uses.uses })) c.box_of_own-own.ensures c.sound.ensures c.requires.labels
    c.requires.uses c.in_ok-uses.ensures
