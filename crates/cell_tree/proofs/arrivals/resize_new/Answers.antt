use Rattle.cell_tree.proofs.Common.{◌≡◌, ℕ, suc, ◌+◌, List, get_or, sym, subst, ◌∙◌, arith, both_ways, size_at, IsWithin, states, AreSettled}
use Rattle.cell_tree.proofs.FindLaws.{length-states}
use Rattle.cell_tree.proofs.ArrivalLaws.{SetsAt, set_kept, set_settled, set_stops}
use Rattle.cell_tree.proofs.arrivals.resize_new.Goals as goal
use Rattle.cell_tree.proofs.arrivals.resize_new.Goals.{After-resize_one}

sets : (c : After-resize_one)
    → SetsAt c.args.dimension (states c.args.cells.now) c.loop-key.key-index c.loop-key.sizes c.resize_one.new.next c.args.new.now.order.items
sets c =
    subst (SetsAt c.args.dimension (states c.args.cells.now) c.loop-key.key-index c.loop-key.sizes c.resize_one.new.next) c.deref-key-items.ensures.value
    c.resize_one.ensures.set

pub returns-then-not-resize_one-clause-stopped : goal.returns-then-not-resize_one-clause-stopped
returns-then-not-resize_one-clause-stopped c never =
    set_stops c.requires.order c.args.dimension c.loop-key.key-index c.loop-key.sizes c.resize_one.new.next
    (omega arith) (c.loop-key.auto.sizes ∙ c.requires.long ∙ sym (length-states c.args.cells.now))
    (sets (goal.at.returns-then-not-resize_one-clause-stopped c).After-resize_one) c.loop-key.invariant.settled
    (λ fits. both_ways _ c.if-not-resize_one.true (c.resize_one.ensures.within.1
    (subst (λ (items : List ℕ). IsWithin c.args.dimension (size_at c.resize_one.new.next (get_or items c.loop-key.key-index 0)))
    (sym c.deref-key-items.ensures.value) fits)))

pub returns-then-not-resize_one-clause-kept : goal.returns-then-not-resize_one-clause-kept
returns-then-not-resize_one-clause-kept c =
    set_kept c.requires.order c.args.dimension c.loop-key.key-index c.loop-key.sizes c.resize_one.new.next
    (omega arith) (c.loop-key.auto.sizes ∙ c.requires.long ∙ sym (length-states c.args.cells.now))
    (sets (goal.at.returns-then-not-resize_one-clause-kept c).After-resize_one) c.args.sizes.now c.loop-key.invariant.kept

pub loop-key-preserved : goal.loop-key-preserved
loop-key-preserved c =
    let long = c.loop-key.auto.sizes ∙ c.requires.long ∙ sym (length-states c.args.cells.now) in
    let here = sets (goal.at.loop-key-preserved c).After-resize_one in
    record {
      settled = subst (λ place. AreSettled c.args.dimension (states c.args.cells.now) c.args.new.now.first c.args.new.now.order.items place
          c.resize_one.new.next)
          (let e : suc c.loop-key.key-index ≡ c.loop-key.key-index + 1 = omega arith in e)
          (set_settled c.requires.order c.args.dimension c.loop-key.key-index c.loop-key.sizes c.resize_one.new.next (omega arith) long here
          c.loop-key.invariant.settled
          (subst (λ (items : List ℕ). IsWithin c.args.dimension (size_at c.resize_one.new.next (get_or items c.loop-key.key-index 0)))
          c.deref-key-items.ensures.value
          (c.resize_one.ensures.within.0 c.if-not-resize_one.false)));
      kept = set_kept c.requires.order c.args.dimension c.loop-key.key-index c.loop-key.sizes c.resize_one.new.next (omega arith) long here
          c.args.sizes.now c.loop-key.invariant.kept;
    }
