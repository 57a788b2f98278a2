use Rattle.cell_library.proofs.Common.{cell_at}
use Rattle.cell_library.proofs.OwnRestorations.{box_before_put, room_put}
use Rattle.cell_library.proofs.own_restorations.put_back_cell.Goals as goal

pub box_after-own-requires-clause-before : goal.box_after-own-requires-clause-before
box_after-own-requires-clause-before c =
    box_before_put c.args.area c.args.pieces.now c.args.contents.now c.put_back.new.self c.args.cell (cell_at c.args.tree.now.cells c.args.cell).own
    c.requires.cell c.in_ok-put_back.ensures.put c.requires.own

pub give_box-requires-clause-lawful : goal.give_box-requires-clause-lawful
give_box-requires-clause-lawful c =
    (room_put c.args.tree.now c.args.cell c.args.area c.args.pieces.now c.args.contents.now c.put_back.new.self c.requires.cell
    c.in_ok-put_back.ensures.put c.requires.room).lawful c.box_after-own.result c.box_after-own.ensures

pub give_box-requires-clause-fits : goal.give_box-requires-clause-fits
give_box-requires-clause-fits c =
    (room_put c.args.tree.now c.args.cell c.args.area c.args.pieces.now c.args.contents.now c.put_back.new.self c.requires.cell
    c.in_ok-put_back.ensures.put c.requires.room).hulls c.box_after-own.result c.box_after-own.ensures
