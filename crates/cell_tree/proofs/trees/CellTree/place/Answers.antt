use Rattle.cell_tree.proofs.Common.{◌<◌, length, ap, sym, subst, ◌∙◌, arith, ℕ, both_ways, HasIdAt, Tree, cell_at}
use Rattle.cell_tree.proofs.WholeLaws.{cell_is}
use Rattle.cell_tree.proofs.trees.CellTree.place.Goals as goal

pub returns-then-use_count-ge-MOST_USES-clause-refused : goal.returns-then-use_count-ge-MOST_USES-clause-refused
returns-then-use_count-ge-MOST_USES-clause-refused c =
    let within : c.args.cell < length c.is_above.new.self.cells =
    subst (λ (t : Tree). c.args.cell < length t.cells) (sym c.is_above.ensures.same) c.requires.within in
    let most = c.lawful.ensures.cells.few c.args.cell _ (cell_is c.is_above.new.self.cells c.args.cell within) in (
      (λ above. both_ways _ c.if-is_above.false (c.is_above.ensures.above.1 above)),
      ap (λ (t : Tree). length (cell_at t.cells c.args.cell).uses) (sym c.is_above.ensures.same)
          ∙ omega (arith, most, c.if-use_count-ge-MOST_USES.true, c.use_count.ensures),
    )

pub insert_use-requires-clause-new : goal.insert_use-requires-clause-new
insert_use-requires-clause-new c =
    subst (λ (t : Tree). (k : ℕ) → HasIdAt (cell_at t.cells c.args.cell).uses k c.args.id.items → ⊥) (sym c.is_above.ensures.same) c.requires.new
