use Rattle.cell_tree.proofs.Common.{◌≡◌, arith, ap, sym, ◌∙◌, subst, get_or, slice_set, same_Some, TreeCell, size_at, AreAlike}
use Rattle.std.proofs.lemmas.List.{get_or_default}
use Rattle.cell_tree.specs.Sizes.{size_of}
use Rattle.cell_tree.proofs.FindLaws.{state_read, length-states}
use Rattle.cell_tree.proofs.trials.resize_one.Goals as goal

pub measured-size-requires-clause-most : goal.measured-size-requires-clause-most
measured-size-requires-clause-most c = c.requires.lawful.few c.args.key _ (state_read c.args.cells.now c.args.key c.index-cells-key-2.result c.requires.within)

pub measured-size-requires-clause-lawful : goal.measured-size-requires-clause-lawful
measured-size-requires-clause-lawful c k entry stands =
    let both = c.requires.lawful.uses c.args.key _ (state_read c.args.cells.now c.args.key c.index-cells-key-2.result c.requires.within) k entry stands in
    (both.0, omega (arith, both.1, length-states c.args.cells.now, c.requires.long))

pub measured-size-requires-clause-within : goal.measured-size-requires-clause-within
measured-size-requires-clause-within c = c.requires.children _ (state_read c.args.cells.now c.args.key c.index-cells-key-2.result c.requires.within)

pub returns-clause-set : goal.returns-clause-set
returns-clause-set c body is =
    let cell : TreeCell = get_or c.args.cells.now c.args.key c.index-cells-key.result in
    let same : record { own = cell.own; uses = (get_or c.args.cells.now c.args.key c.index-cells-key-2.result).uses.entries } ≡ body =
    ap (λ (t : TreeCell). record { own = cell.own; uses = t.uses.entries })
    (get_or_default c.args.cells.now c.args.key c.index-cells-key-2.result c.index-cells-key.result c.requires.within)
    ∙ same_Some _ _ (sym (state_read c.args.cells.now c.args.key c.index-cells-key.result c.requires.within) ∙ is) in (
      c.measured-size.result,
      subst (λ b. AreAlike c.args.dimension c.measured-size.result (size_of (size_at c.args.next.now) b)) same c.measured-size.ensures,
      ap (slice_set c.args.next.now c.args.key) c.with_dimension.ensures,
    )
