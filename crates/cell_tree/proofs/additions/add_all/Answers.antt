use Rattle.cell_tree.proofs.Common.{List, length, sym, ap, subst, ◌∙◌, arith, TreeCell, states, IsWhole, tree_of, AreAdded, new_states, IsNewOrder}
use Rattle.cell_tree.proofs.Common.{with_items_is}
use Rattle.cell_tree.proofs.TableLaws.{on_ok_both}
use Rattle.cell_tree.proofs.ComeLaws.{all_lawful, old_children, old_acyclic, may_be_sized, come_whole, come_added}
use Rattle.cell_tree.proofs.additions.add_all.Goals as goal

pub new_order-requires-clause-lawful : goal.new_order-requires-clause-lawful
new_order-requires-clause-lawful c =
    all_lawful c.args.cells.now.items c.args.book.now c.requires.whole (new_states c.args.new.items) (states c.as_slice.result.now) c.requires.may
    (ap states c.as_slice.ensures.value ∙ c.in-Ok.ensures.states)

pub new_order-requires-clause-old : goal.new_order-requires-clause-old
new_order-requires-clause-old c =
    old_children c.args.cells.now.items c.args.book.now c.requires.whole (new_states c.args.new.items) (states c.as_slice.result.now) c.requires.may
    (ap states c.as_slice.ensures.value ∙ c.in-Ok.ensures.states) c.len-first.result (omega arith)

pub new_order-requires-clause-acyclic : goal.new_order-requires-clause-acyclic
new_order-requires-clause-acyclic c =
    old_acyclic c.args.cells.now.items c.args.book.now c.requires.whole (new_states c.args.new.items) (states c.as_slice.result.now) c.requires.may
    (ap states c.as_slice.ensures.value ∙ c.in-Ok.ensures.states) c.len-first.result (omega arith)

pub settle-requires-clause-sized : goal.settle-requires-clause-sized
settle-requires-clause-sized c =
    may_be_sized c.args.cells.now.items c.args.book.now c.requires.whole (new_states c.args.new.items) (states c.as_mut_slice.result.now) c.requires.may
    (ap states c.as_mut_slice.ensures.value ∙ c.in-Ok.ensures.states) c.in-Ok-new_order.order.first c.in-Ok-new_order.order.order.items
    c.reserve_all.new.self.sizes.items
    (omega (arith, c.in-Ok-new_order.ensures.first))
    (subst (λ n. IsNewOrder (states c.as_mut_slice.result.now) n c.in-Ok-new_order.order.order.items) (sym c.in-Ok-new_order.ensures.first)
    (subst (λ (cells : List TreeCell). IsNewOrder (states cells) c.len-first.result c.in-Ok-new_order.order.order.items)
    (c.as_slice.ensures.value ∙ sym c.as_mut_slice.ensures.value)
    c.in-Ok-new_order.ensures.order))
    c.reserve_all.ensures.same.sizes

pub returns-in-Ok-new_order-clause-whole : goal.returns-in-Ok-new_order-clause-whole
returns-in-Ok-new_order-clause-whole c =
    on_ok_both c.settle.result _ _ _ c.settle.ensures.known c.settle.ensures.extended (λ users extended.
    subst (λ (items : List TreeCell). IsWhole items c.settle.new.book)
    (sym (with_items_is c.push_all.new.cells c.settle.new.cells (c.settle.auto.cells ∙ c.as_mut_slice.ensures.len)))
    (come_whole c.args.cells.now.items c.args.book.now c.requires.whole (new_states c.args.new.items) (states c.as_mut_slice.result.now) c.requires.may
    (ap states c.as_mut_slice.ensures.value ∙ c.in-Ok.ensures.states) c.settle.new.cells c.settle.new.book users c.in-Ok-new_order.order.first
    (length c.as_mut_slice.result.now)
    (omega (arith, c.in-Ok-new_order.ensures.first)) (sym c.settle.auto.cells) c.settle.ensures.states c.reserve_all.new.self c.reserve_all.ensures.same
    extended))

pub returns-in-Ok-new_order-clause-added : goal.returns-in-Ok-new_order-clause-added
returns-in-Ok-new_order-clause-added c =
    on_ok_both c.settle.result _ _ _ c.settle.ensures.known c.settle.ensures.extended (λ users extended.
    subst (λ (items : List TreeCell). AreAdded (tree_of c.args.cells.now.items c.args.book.now) (tree_of items c.settle.new.book) (new_states c.args.new.items))
    (sym (with_items_is c.push_all.new.cells c.settle.new.cells (c.settle.auto.cells ∙ c.as_mut_slice.ensures.len)))
    (come_added c.args.cells.now.items c.args.book.now c.requires.whole (new_states c.args.new.items) (states c.as_mut_slice.result.now) c.requires.may
    (ap states c.as_mut_slice.ensures.value ∙ c.in-Ok.ensures.states) c.settle.new.cells c.settle.new.book users c.in-Ok-new_order.order.first
    (length c.as_mut_slice.result.now)
    (omega (arith, c.in-Ok-new_order.ensures.first)) (sym c.settle.auto.cells) c.settle.ensures.states c.reserve_all.new.self c.reserve_all.ensures.same
    extended))
