use Rattle.cell_library.proofs.Common.{◌<◌, length, arith, layout_of, cell_at, held_at}
use Rattle.cell_library.proofs.BoxSteps.{inner_lawful, own_lawful}
use Rattle.cell_library.proofs.OwnRestorations.{box_before_drop, dropped_inside, dropped_upright}
use Rattle.cell_library.proofs.own_restorations.drop_last_label_of.Goals as goal

pub box_without-own-requires-clause-before : goal.box_without-own-requires-clause-before
box_without-own-requires-clause-before c =
    box_before_drop c.pop_label-gone.result c.args.contents.now c.pop_label-gone.new.self c.args.cell (cell_at c.args.tree.now.cells c.args.cell).own
    c.requires.cell c.pop_label-gone.ensures.popped c.pop_label-gone.ensures.last c.requires.own

pub shrink_box-requires-clause-inside : goal.shrink_box-requires-clause-inside
shrink_box-requires-clause-inside c =
    dropped_inside c.args.contents.now c.pop_label-gone.new.self c.args.cell (cell_at c.args.tree.now.cells c.args.cell).own c.box_without-own.result
    c.requires.cell c.pop_label-gone.ensures.popped c.requires.own c.box_without-own.ensures

pub shrink_box-requires-clause-lawful : goal.shrink_box-requires-clause-lawful
shrink_box-requires-clause-lawful c =
    let many = c.requires.so_many in
    let inside : c.args.cell < length c.args.contents.now = c.requires.cell in
    let below : c.args.cell < length c.args.tree.now.cells = omega arith in
    let after = held_at c.pop_label-gone.new.self c.args.cell in
    inner_lawful (layout_of after.paint) after.labels c.box_without-own.result (cell_at c.args.tree.now.cells c.args.cell).own c.box_without-own.ensures
    (dropped_inside c.args.contents.now c.pop_label-gone.new.self c.args.cell (cell_at c.args.tree.now.cells c.args.cell).own c.box_without-own.result
    c.requires.cell c.pop_label-gone.ensures.popped c.requires.own c.box_without-own.ensures)
    (own_lawful c.args.tree.now c.args.cell c.lawful.ensures below)
    (dropped_upright c.args.contents.now c.pop_label-gone.new.self c.args.cell c.requires.cell c.pop_label-gone.ensures.popped c.requires.labels)
