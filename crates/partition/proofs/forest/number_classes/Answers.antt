use Rattle.std.proofs.Common.{◌≡◌, length, subst, arith}
use Rattle.partition.specs.Parents.{leaders_of}
use Rattle.partition.proofs.Numbering.{Numbered, numbered_root, numbered_child, numbered_all, classes_below-le}
use Rattle.partition.proofs.forest.number_classes.Goals as goal
use Rattle.partition.proofs.forest.number_classes.Goals.{then-parent-number, else-parent-number}

pub overflow_add-count : goal.overflow_add-count
overflow_add-count c =
    omega (arith, c.loop-number.invariant.counted, classes_below-le (leaders_of c.args.labels.now) c.loop-number.number)

pub loop-number-preserved : goal.loop-number-preserved
loop-number-preserved c =
    let p = c.args.labels.now in
    let labels = c.loop-number.labels in
    let i = c.loop-number.number in
    let n = c.loop-number.invariant in
    elim c.if-parent-number.branch [
      | then-parent-number w ↦ rw (w.labels-is, w.count-is) (numbered_root p labels i c.loop-number.count c.requires n (omega arith) (omega arith)
          w.if-parent-number.true)
      | else-parent-number w ↦ rw (w.labels-is, w.count-is) (numbered_child p labels i c.loop-number.count c.requires n (omega arith) (omega arith)
          w.if-parent-number.false)
    ]

pub returns-clause-labels : goal.returns-clause-labels
returns-clause-labels c =
    let p = c.args.labels.now in
    let end : c.loop-number.number ≡ length p = omega arith in
    numbered_all p c.loop-number.labels c.loop-number.count c.requires
    (subst (λ n. Numbered p c.loop-number.labels n c.loop-number.count) end c.loop-number.invariant) (omega arith)
