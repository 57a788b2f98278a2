use Rattle.cell_tree.proofs.Common.{rules, ◌-◌, ◌<◌, length, arith, sym, ◌∙◌, both_ways}
use Rattle.cell_tree.proofs.FindLaws.{order_of, length-states}
use Rattle.cell_tree.proofs.StepLaws.{fit_start, children_fit, set_next, fit_next, stops_next, fit_done}
use Rattle.cell_tree.proofs.trials.resize.Goals as goal

pub loop-k-init : goal.loop-k-init
loop-k-init c = fit_start (order_of c.requires.ready.known c.requires.ready.lists) c.requires.ready.settled c.requires.within

pub offset_bounds-order-k : goal.offset_bounds-order-k
offset_bounds-order-k c = let within : c.loop-k.k - 1 < length c.args.order.now = omega (arith, c.loop-k.invariant.low, c.loop-k-test.true) in search rules

pub bounds-order-k : goal.bounds-order-k
bounds-order-k c = omega (arith, c.loop-k.invariant.low, c.loop-k-test.true)

pub resize_one-requires-clause-children : goal.resize_one-requires-clause-children
resize_one-requires-clause-children c =
    children_fit (order_of c.requires.ready.known c.requires.ready.lists) c.loop-k-test.true c.loop-k.invariant

pub returns-then-not-resize_one-clause-stopped : goal.returns-then-not-resize_one-clause-stopped
returns-then-not-resize_one-clause-stopped c never =
    stops_next (order_of c.requires.ready.known c.requires.ready.lists) c.loop-k-test.true c.loop-k.invariant
    (c.loop-k.auto.next ∙ c.requires.ready.long ∙ sym (length-states c.args.cells.now)) c.resize_one.ensures.set
    (λ fits. both_ways _ c.if-not-resize_one.true (c.resize_one.ensures.within.1 fits))

pub returns-then-not-resize_one-clause-pass : goal.returns-then-not-resize_one-clause-pass
returns-then-not-resize_one-clause-pass c =
    (set_next (order_of c.requires.ready.known c.requires.ready.lists) c.loop-k-test.true c.loop-k.invariant
    (c.loop-k.auto.next ∙ c.requires.ready.long ∙ sym (length-states c.args.cells.now)) c.resize_one.ensures.set).pass

pub loop-k-preserved : goal.loop-k-preserved
loop-k-preserved c =
    fit_next (order_of c.requires.ready.known c.requires.ready.lists) c.loop-k-test.true c.loop-k.invariant
    (c.loop-k.auto.next ∙ c.requires.ready.long ∙ sym (length-states c.args.cells.now)) c.resize_one.ensures.set
    (c.resize_one.ensures.within.0 c.if-not-resize_one.false)

pub returns-clause-done : goal.returns-clause-done
returns-clause-done c done = fit_done (order_of c.requires.ready.known c.requires.ready.lists) c.loop-k-test.false c.loop-k.invariant

pub returns-clause-pass : goal.returns-clause-pass
returns-clause-pass c = c.loop-k.invariant.set.pass
