use Rattle.fault_grade.proofs.Common.{◌≡◌, ◌≤◌, length, is_either_node, faults_but}
use Rattle.std.proofs.Common.{◌*◌}
use Rattle.fault_grade.proofs.grading.count_faults.Given as goal

abbrev pub invariant-loop-node : goal.invariant-loop-node
invariant-loop-node l = record {
  counted : l.count ≡ length (faults_but (is_either_node l.rails.power l.rails.ground) l.node);
  few : l.count ≤ 2 * l.node;
}
