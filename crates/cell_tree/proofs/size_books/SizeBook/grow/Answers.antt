use Rattle.cell_tree.proofs.Common.{◌≡◌, List, length, ap, sym, subst, ◌∙◌, suc, IfOk-at_ok, with_items_is, Size, states, IsTried, stamp_at}
use Rattle.cell_tree.proofs.TableLaws.{on_ok_from}
use Rattle.cell_tree.proofs.size_books.SizeBook.grow.Goals as goal

pub returns-in-Ok-clause-booked : goal.returns-in-Ok-clause-booked
returns-in-Ok-clause-booked c =
    let same : c.as_mut_slice.result.now ≡ c.args.self.now.sizes.items = c.as_mut_slice.ensures.value ∙ c.find.ensures.found.next ∙ c.requires.ready.next in
    let taken : c.commit.new.self.sizes.items ≡ c.try_size-tried.new.next =
    c.commit.ensures.sizes ∙ with_items_is c.find.new.self.next c.try_size-tried.new.next (c.try_size-tried.auto.next ∙ c.as_mut_slice.ensures.len) in
    let tried = IfOk-at_ok _ c.in-Ok.is c.try_size-tried.ensures.tried in
    on_ok_from c.try_size-tried.result _ (record {
      sizes =
          subst (λ (new : List Size). IsTried (states c.args.cells.now) c.args.self.now.sizes.items new c.args.cell c.args.size.now) (sym taken)
          (subst (λ (sizes : List Size). IsTried (states c.args.cells.now) sizes c.try_size-tried.new.next c.args.cell c.args.size.now) same tried);
      edits = c.commit.ensures.edits ∙ ap suc c.find.ensures.found.same.edits;
      stamps = record {
        count = c.commit.ensures.count ∙ ap length c.find.ensures.found.same.stamps;
        raised = λ key above. c.commit.ensures.raised key ((c.find.ensures.order.above key).1 above);
        others = λ key apart. c.commit.ensures.others key (λ stands. apart ((c.find.ensures.order.above key).0 stands))
            ∙ ap (λ stamps. stamp_at stamps key) c.find.ensures.found.same.stamps;
      };
    })
