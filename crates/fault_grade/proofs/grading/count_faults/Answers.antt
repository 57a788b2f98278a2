use Rattle.fault_grade.proofs.Common.{ap, arith, length, sym, ◌∙◌, is_either_node, faults_at, faults_but}
use Rattle.std.proofs.lemmas.List.{length-append}
use Rattle.fault_grade.proofs.GradeLaws.{faults_kept, faults_left}
use Rattle.fault_grade.proofs.grading.count_faults.Goals as goal

pub loop-node-preserved-then-has : goal.loop-node-preserved-then-has
loop-node-preserved-then-has c =
    let rails = c.args.rails.now in
    let before = c.loop-node.invariant in
    record {
      counted = before.counted ∙ ap length (sym (faults_left (is_either_node rails.power rails.ground) c.loop-node.node (sym c.if-has.ensures)));
      few = omega (arith, before.few);
    }

pub loop-node-preserved : goal.loop-node-preserved
loop-node-preserved c =
    let rails = c.args.rails.now in
    let before = c.loop-node.invariant in
    let node = c.loop-node.node in
    let known = is_either_node rails.power rails.ground in
    let more = ap length (faults_kept known node (sym c.if-has.ensures)) ∙ length-append (faults_but known node) (faults_at node) in
    record { counted = omega (arith, before.counted, more); few = omega (arith, before.few) }
