use Rattle.cell_tree.proofs.Common.{rules, ◌<◌, length, arith, ap, sym, ◌∙◌, Hull, CellState, size_at, states, cell_at, with_own}
use Rattle.cell_tree.specs.Sizes.{size_of}
use Rattle.cell_tree.proofs.CellLaws.{cell_at-states}
use Rattle.cell_tree.proofs.FindLaws.{state_read, length-states}
use Rattle.cell_tree.proofs.WholeLaws.{cell_is}
use Rattle.cell_tree.proofs.TreeLaws.{box_size}
use Rattle.cell_tree.proofs.resizes.size_with_box.Goals as goal

pub measured-wide-requires-clause-most : goal.measured-wide-requires-clause-most
measured-wide-requires-clause-most c = c.requires.lawful.uses.few c.args.cell _
    (state_read c.args.cells.now c.args.cell c.index-cells-cell.result c.requires.within)

pub measured-wide-requires-clause-lawful : goal.measured-wide-requires-clause-lawful
measured-wide-requires-clause-lawful c k entry stands =
    let both = c.requires.lawful.uses.uses c.args.cell _ (state_read c.args.cells.now c.args.cell c.index-cells-cell.result c.requires.within) k entry stands in
    (both.0, omega (arith, both.1, c.requires.lawful.measured.count))

pub measured-wide-requires-clause-within : goal.measured-wide-requires-clause-within
measured-wide-requires-clause-within c k entry stands = c.requires.lawful.measured.within Hull entry.1.child.0

pub bounds-sizes-cell : goal.bounds-sizes-cell
bounds-sizes-cell c = omega (arith, c.requires.within, c.requires.lawful.measured.count, length-states c.args.cells.now)

pub offset_bounds-sizes-cell : goal.offset_bounds-sizes-cell
offset_bounds-sizes-cell c =
    let within : c.args.cell < length c.args.sizes.now = omega (arith, c.requires.within, c.requires.lawful.measured.count, length-states c.args.cells.now) in
    search rules

pub returns : goal.returns
returns c =
    box_size c.args.sizes.now (cell_at (states c.args.cells.now) c.args.cell) c.args.own c.measured-wide.result (size_at c.args.sizes.now c.args.cell)
    (c.requires.lawful.measured.right c.args.cell _
    (cell_is (states c.args.cells.now) c.args.cell (omega (arith, c.requires.within, length-states c.args.cells.now))))
    (c.measured-wide.ensures
    ∙ ap (λ (cell : CellState). (size_of (size_at c.args.sizes.now) (with_own cell c.args.own)).hull)
    (sym (cell_at-states c.args.cells.now c.args.cell c.index-cells-cell.result c.requires.within)))
