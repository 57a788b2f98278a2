use Rattle.cell_tree.proofs.Common.{◌<◌, length, get_or, arith, ap, sym, subst, ◌∙◌, TreeCell, CellState, size_at, with_or_without, with_uses}
use Rattle.std.proofs.lemmas.List.{get_or_default}
use Rattle.cell_tree.specs.Sizes.{size_of}
use Rattle.cell_tree.proofs.CellLaws.{cell_at-states}
use Rattle.cell_tree.proofs.FindLaws.{state_read, length-states}
use Rattle.cell_tree.proofs.resizes.size_with_use.Goals as goal

pub size_with-requires-clause-at : goal.size_with-requires-clause-at
size_with-requires-clause-at c =
    subst (λ (cell : CellState). c.args.k < length cell.uses) (cell_at-states c.args.cells.now c.args.cell c.index-cells-cell-2.result c.requires.within)
    c.requires.use_within

pub size_with-requires-clause-most : goal.size_with-requires-clause-most
size_with-requires-clause-most c = c.requires.lawful.uses.few c.args.cell _
    (state_read c.args.cells.now c.args.cell c.index-cells-cell-2.result c.requires.within)

pub size_with-requires-clause-lawful : goal.size_with-requires-clause-lawful
size_with-requires-clause-lawful c k entry stands =
    let both = c.requires.lawful.uses.uses c.args.cell _ (state_read c.args.cells.now c.args.cell c.index-cells-cell-2.result c.requires.within) k entry
    stands in
    (both.0, omega (arith, both.1, c.requires.lawful.measured.count))

pub size_with-requires-clause-body : goal.size_with-requires-clause-body
size_with-requires-clause-body c body is =
    let both = c.requires.body body is in (both.0, omega (arith, both.1, c.requires.lawful.measured.count, length-states c.args.cells.now))

pub size_with-requires-clause-within : goal.size_with-requires-clause-within
size_with-requires-clause-within c = c.requires.lawful.measured.within

pub returns : goal.returns
returns c =
    c.size_with.ensures
    ∙ ap (λ (cell : TreeCell). size_of (size_at c.args.sizes.now)
    (record {
      own = cell.own;
      uses = with_or_without (get_or c.args.cells.now c.args.cell c.index-cells-cell-2.result).uses.entries c.args.k
          c.args.used.now;
    }))
    (get_or_default c.args.cells.now c.args.cell c.index-cells-cell.result c.index-cells-cell-2.result c.requires.within)
    ∙ ap (λ (cell : CellState). size_of (size_at c.args.sizes.now) (with_uses cell (with_or_without cell.uses c.args.k c.args.used.now)))
    (sym (cell_at-states c.args.cells.now c.args.cell c.index-cells-cell-2.result c.requires.within))
