use Rattle.cell_library.proofs.Common.{◌<◌, length, arith, layout_of, cell_at, held_at}
use Rattle.cell_library.proofs.BoxSteps.{unlabelled_inside, inner_lawful, own_lawful, left_upright}
use Rattle.cell_library.proofs.painting.unlabel_cell.Goals as goal

pub shrink_box-requires-clause-inside : goal.shrink_box-requires-clause-inside
shrink_box-requires-clause-inside c =
    unlabelled_inside c.args.text.now c.args.contents.now c.remove_labels.new.self c.args.cell (cell_at c.args.tree.now.cells c.args.cell).own
    c.box_of_own-own.result c.requires.cell c.remove_labels.ensures c.requires.own c.box_of_own-own.ensures

pub shrink_box-requires-clause-lawful : goal.shrink_box-requires-clause-lawful
shrink_box-requires-clause-lawful c =
    let many = c.requires.so_many in
    let inside : c.args.cell < length c.args.contents.now = c.requires.cell in
    let below : c.args.cell < length c.args.tree.now.cells = omega arith in
    inner_lawful (layout_of (held_at c.remove_labels.new.self c.args.cell).paint) (held_at c.remove_labels.new.self c.args.cell).labels c.box_of_own-own.result
    (cell_at c.args.tree.now.cells c.args.cell).own c.box_of_own-own.ensures
    (unlabelled_inside c.args.text.now c.args.contents.now c.remove_labels.new.self c.args.cell (cell_at c.args.tree.now.cells c.args.cell).own
    c.box_of_own-own.result c.requires.cell c.remove_labels.ensures c.requires.own c.box_of_own-own.ensures)
    (own_lawful c.args.tree.now c.args.cell c.lawful.ensures below)
    (left_upright c.args.text.now c.args.contents.now c.remove_labels.new.self c.args.cell c.requires.cell c.remove_labels.ensures c.requires.labels)
