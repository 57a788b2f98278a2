use Rattle.cell_tree.proofs.Common.{sym, ◌∙◌, Depth, Elements, Hull}
use Rattle.cell_tree.proofs.FindLaws.{length-states}
use Rattle.cell_tree.proofs.ArrivalLaws.{start_again, passes_one, passes_two, passes_three, sized_right, sized_within}
use Rattle.cell_tree.proofs.arrivals.resize_all.Goals as goal

pub resize_new-requires-clause-old : goal.resize_new-requires-clause-old
resize_new-requires-clause-old c = c.requires.old Depth

pub returns-then-not-resize_new-clause-refused : goal.returns-then-not-resize_new-clause-refused
returns-then-not-resize_new-clause-refused c =
    passes_one c.requires.order c.args.sizes.now (c.requires.long ∙ sym (length-states c.args.cells.now)) c.requires.old c.resize_new.ensures.kept
    (c.resize_new.ensures.stopped c.if-not-resize_new.true)

pub resize_new-requires-2-clause-old : goal.resize_new-requires-2-clause-old
resize_new-requires-2-clause-old c = start_again c.requires.order Elements _ _ c.resize_new.ensures.kept.kept (c.requires.old Elements)

pub returns-then-not-resize_new-2-clause-refused : goal.returns-then-not-resize_new-2-clause-refused
returns-then-not-resize_new-2-clause-refused c =
    passes_two c.requires.order c.args.sizes.now (c.requires.long ∙ sym (length-states c.args.cells.now)) c.requires.old c.resize_new.ensures.kept
    (c.resize_new.ensures.done c.if-not-resize_new.false) c.resize_new-2.ensures.kept (c.resize_new-2.ensures.stopped c.if-not-resize_new-2.true)

pub resize_new-requires-3-clause-old : goal.resize_new-requires-3-clause-old
resize_new-requires-3-clause-old c =
    start_again c.requires.order Hull c.args.sizes.now c.resize_new-2.new.sizes
    (λ key old. c.resize_new-2.ensures.kept.kept key old ∙ c.resize_new.ensures.kept.kept key old) (c.requires.old Hull)

pub returns-then-not-resize_new-3-clause-refused : goal.returns-then-not-resize_new-3-clause-refused
returns-then-not-resize_new-3-clause-refused c =
    passes_three c.requires.order c.args.sizes.now (c.requires.long ∙ sym (length-states c.args.cells.now)) c.requires.old c.resize_new.ensures.kept
    (c.resize_new.ensures.done c.if-not-resize_new.false) c.resize_new-2.ensures.kept (c.resize_new-2.ensures.done c.if-not-resize_new-2.false)
    c.resize_new-3.ensures.kept (c.resize_new-3.ensures.stopped c.if-not-resize_new-3.true)

pub returns-clause-right : goal.returns-clause-right
returns-clause-right c =
    sized_right c.requires.order c.args.sizes.now (c.requires.long ∙ sym (length-states c.args.cells.now)) c.requires.old c.resize_new.ensures.kept
    (c.resize_new.ensures.done c.if-not-resize_new.false) c.resize_new-2.ensures.kept (c.resize_new-2.ensures.done c.if-not-resize_new-2.false)
    c.resize_new-3.ensures.kept (c.resize_new-3.ensures.done c.if-not-resize_new-3.false)

pub returns-clause-within : goal.returns-clause-within
returns-clause-within c =
    let long = c.requires.long ∙ sym (length-states c.args.cells.now) in
    sized_within c.requires.order c.args.sizes.now long c.requires.old c.resize_new.ensures.kept
    (c.resize_new.ensures.done c.if-not-resize_new.false) c.resize_new-2.ensures.kept (c.resize_new-2.ensures.done c.if-not-resize_new-2.false)
    c.resize_new-3.ensures.kept (c.resize_new-3.ensures.done c.if-not-resize_new-3.false)
    (c.resize_new-3.auto.sizes ∙ c.resize_new-2.auto.sizes ∙ c.resize_new.auto.sizes ∙ long)
