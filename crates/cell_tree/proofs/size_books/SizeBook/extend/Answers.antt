use Rattle.cell_tree.proofs.Common.{List, length, take, replicate, ◌-◌, ap, ◌∙◌, arith, Size, with_items_is, length-append}
use Rattle.cell_tree.proofs.ArrivalLaws.{start_again}
use Rattle.cell_tree.proofs.TableLaws.{on_err_from}
use Rattle.cell_tree.proofs.BookLaws.{filled_old, taken_back}
use Rattle.cell_tree.proofs.size_books.SizeBook.extend.Goals as goal

pub resize_all-sized-requires-clause-old : goal.resize_all-sized-requires-clause-old
resize_all-sized-requires-clause-old c dimension =
    start_again c.requires.sized.sorted dimension c.args.self.now.sizes.items c.as_mut_slice.result.now
    (filled_old c.args.self.now.sizes.items c.args.self.now.next.items c.fill.new.list.items c.as_mut_slice.result.now _ c.args.new.now.first _
    c.as_mut_slice.ensures.value c.fill.ensures.filled c.requires.ready.next c.requires.sized.count)
    (c.requires.sized.old dimension)

pub returns-in-Err-clause-ready : goal.returns-in-Err-clause-ready
returns-in-Err-clause-ready c =
    on_err_from c.resize_all-sized.result _ (record {
      sizes = c.requires.ready.sizes;
      next = c.truncate.ensures.items
          ∙ ap (λ (sizes : List Size). take c.args.new.now.first sizes)
          (with_items_is c.fill.new.list c.resize_all-sized.new.sizes (c.resize_all-sized.auto.sizes ∙ c.as_mut_slice.ensures.len))
          ∙ taken_back c.args.self.now.sizes.items c.resize_all-sized.new.sizes c.args.new.now.first c.requires.sized.count
          (omega (
            arith,
            c.resize_all-sized.auto.sizes,
            c.as_mut_slice.ensures.len,
            ap length c.as_mut_slice.ensures.value,
            ap length c.fill.ensures.filled,
            length-append c.args.self.now.next.items (replicate (length c.args.cells.now - length c.args.self.now.next.items) c.own_size.result),
            ap length c.requires.ready.next,
            c.requires.sized.count,
          ))
          (λ key low. c.resize_all-sized.ensures.kept key low
          ∙ filled_old c.args.self.now.sizes.items c.args.self.now.next.items c.fill.new.list.items c.as_mut_slice.result.now _ c.args.new.now.first _
          c.as_mut_slice.ensures.value c.fill.ensures.filled c.requires.ready.next c.requires.sized.count key low);
      stamps = c.requires.ready.stamps;
      seen = c.requires.ready.seen;
      unseen = c.requires.ready.unseen;
      order = c.requires.ready.order;
      room = c.requires.ready.room;
    })
