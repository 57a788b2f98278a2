use Rattle.cell_library.proofs.OwnRestorations.{room_relabelled}
use Rattle.cell_library.proofs.own_restorations.set_labels_of.Goals as goal

pub give_box-requires-clause-lawful : goal.give_box-requires-clause-lawful
give_box-requires-clause-lawful c =
    (room_relabelled c.args.tree.now c.args.cell c.args.labels.items c.args.contents.now c.set_labels.new.self c.requires.cell c.set_labels.ensures
    c.requires.room).lawful c.box_of_own-own.result c.box_of_own-own.ensures

pub give_box-requires-clause-fits : goal.give_box-requires-clause-fits
give_box-requires-clause-fits c =
    (room_relabelled c.args.tree.now c.args.cell c.args.labels.items c.args.contents.now c.set_labels.new.self c.requires.cell c.set_labels.ensures
    c.requires.room).hulls c.box_of_own-own.result c.box_of_own-own.ensures
