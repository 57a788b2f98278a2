use Rattle.cell_library.proofs.Common.{◌<◌, length, arith, layout_of, cell_at, held_at}
use Rattle.cell_library.proofs.BoxSteps.{erased_inside, inner_lawful, own_lawful, erased_upright, upright_labels}
use Rattle.cell_library.proofs.OwnRestorations.{box_before_erase}
use Rattle.cell_library.proofs.painting.erase_cell.Goals as goal

pub box_after-own-requires-clause-before : goal.box_after-own-requires-clause-before
box_after-own-requires-clause-before c =
    box_before_erase c.args.tech.now c.args.layer.0 c.args.area c.args.contents.now c.erase.new.self c.args.cell
    (cell_at c.args.tree.now.cells c.args.cell).own c.requires.cell c.in_ok-erase.ensures.erased c.requires.own

pub shrink_box-requires-clause-inside : goal.shrink_box-requires-clause-inside
shrink_box-requires-clause-inside c =
    erased_inside c.args.tech.now c.args.layer.0 c.args.area c.args.contents.now c.erase.new.self c.args.cell (cell_at c.args.tree.now.cells c.args.cell).own
    c.box_after-own.result c.raw.ensures.well_formed c.requires.layer c.requires.cell c.requires.held c.sound.ensures c.in_ok-erase.ensures.erased
    c.requires.own
    c.box_after-own.ensures

pub shrink_box-requires-clause-lawful : goal.shrink_box-requires-clause-lawful
shrink_box-requires-clause-lawful c =
    let many = c.requires.so_many in
    let inside : c.args.cell < length c.args.contents.now = c.requires.cell in
    let below : c.args.cell < length c.args.tree.now.cells = omega arith in
    inner_lawful (layout_of (held_at c.erase.new.self c.args.cell).paint) (held_at c.erase.new.self c.args.cell).labels c.box_after-own.result
    (cell_at c.args.tree.now.cells c.args.cell).own c.box_after-own.ensures
    (erased_inside c.args.tech.now c.args.layer.0 c.args.area c.args.contents.now c.erase.new.self c.args.cell (cell_at c.args.tree.now.cells c.args.cell).own
    c.box_after-own.result c.raw.ensures.well_formed c.requires.layer c.requires.cell c.requires.held c.sound.ensures c.in_ok-erase.ensures.erased
    c.requires.own
    c.box_after-own.ensures)
    (own_lawful c.args.tree.now c.args.cell c.lawful.ensures below)
    (erased_upright c.args.tech.now c.args.layer.0 c.args.area c.args.contents.now c.erase.new.self c.args.cell c.requires.cell c.in_ok-erase.ensures.erased
    (upright_labels c.args.tech.now (held_at c.args.contents.now c.args.cell).labels c.requires.held.labels))
