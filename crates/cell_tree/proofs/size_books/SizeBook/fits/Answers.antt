use Rattle.cell_tree.proofs.Common.{◌≡◌, List, length, ap, sym, subst, ◌∙◌, Size, states, IsTried}
use Rattle.cell_tree.proofs.TableLaws.{on_ok_both}
use Rattle.cell_tree.proofs.FindLaws.{length-states}
use Rattle.cell_tree.proofs.size_books.SizeBook.fits.Goals as goal

pub returns-clause-fits : goal.returns-clause-fits
returns-clause-fits c =
    let same : c.as_mut_slice.result.now ≡ c.args.self.now.sizes.items = c.as_mut_slice.ensures.value ∙ c.find.ensures.found.next ∙ c.requires.ready.next in
    on_ok_both c.try_size-fits.result _ _ _ c.try_size-fits.ensures.tried c.try_size-fits.ensures.within
    (λ tried within. record {
      tried = c.try_size-fits.new.next;
      count = c.try_size-fits.auto.next ∙ ap length same ∙ c.requires.ready.sizes ∙ sym (length-states c.args.cells.now);
      is_tried = subst (λ (sizes : List Size). IsTried (states c.args.cells.now) sizes c.try_size-fits.new.next c.args.cell c.args.size.now) same tried;
      within = within;
    })
