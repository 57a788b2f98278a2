use Rattle.fault_grade.proofs.Common.{◌≡◌, AllZip, network_of, is_either_node, IsGrade, faults_but}
use Rattle.fault_grade.proofs.grading.grade_all.Given as goal

abbrev pub invariant-loop-node : goal.invariant-loop-node
invariant-loop-node l = record {
  graded : AllZip (IsGrade (network_of l.fn.named.net) l.fn.named.names l.budget l.vectors)
      (faults_but (is_either_node l.rails.power l.rails.ground) l.node) l.grades.items;
  network : network_of l.named.net ≡ network_of l.fn.named.net;
  names : l.named.names ≡ l.fn.named.names;
}
