use Rattle.fault_grade.proofs.Common.{◌≡◌, List, ap, arith, subst, sym, ◌∙◌, AllZip, network_of, is_either_node, StuckFault, IsGrade, faults_but}
use Rattle.switch_net.specs.Network.{Network}
use Rattle.vector_files.specs.LineForms.{is_rail}
use Rattle.fault_grade.proofs.GradeLaws.{faults_left, graded_more, same_faults}
use Rattle.fault_grade.proofs.grading.grade_all.Goals as goal

pub loop-node-preserved-then-has : goal.loop-node-preserved-then-has
loop-node-preserved-then-has c =
    let rails = c.rails_of-rails.result in
    let before = c.loop-node.invariant in
    record {
      graded = subst (λ (faults : List StuckFault). AllZip (IsGrade (network_of c.args.named.now.net) c.args.named.now.names c.args.budget c.args.vectors.now)
          faults
          c.loop-node.grades.items) (sym (faults_left (is_either_node rails.power rails.ground) c.loop-node.node (sym c.if-has.ensures))) before.graded;
      network = before.network;
      names = before.names;
    }

pub loop-node-preserved : goal.loop-node-preserved
loop-node-preserved c =
    let rails = c.rails_of-rails.result in
    let before = c.loop-node.invariant in
    let added = c.grade_node.ensures in
    record {
      graded = graded_more (network_of c.args.named.now.net) (network_of c.loop-node.named.net) c.args.named.now.names c.loop-node.named.names c.args.budget
          c.args.vectors.now (is_either_node rails.power rails.ground) c.loop-node.node c.loop-node.grades.items c.grade_node.new.grades.items before.network
          before.names (sym c.if-has.ensures) before.graded c.in_ok-grade_node.ensures.graded;
      network = added.network ∙ before.network;
      names = added.names ∙ before.names;
    }

pub returns-clause-graded : goal.returns-clause-graded
returns-clause-graded c =
    let rails = c.rails_of-rails.result in
    let test = is_either_node rails.power rails.ground in
    let same_nodes = ap (λ (net : Network). net.nodes) c.of.ensures.network in
    let all : c.loop-node.node ≡ c.args.named.now.net.nodes = omega (arith, c.loop-node-test.false, c.loop-node.auto.node-end, same_nodes) in
    let faults = ap (faults_but test) all ∙ sym (same_faults (is_rail c.args.named.now.names) test c.args.named.now.net.nodes c.rails_of-rails.ensures.known) in
    subst (λ (faults : List StuckFault). AllZip (IsGrade (network_of c.args.named.now.net) c.args.named.now.names c.args.budget c.args.vectors.now) faults
    c.loop-node.grades.items) faults c.loop-node.invariant.graded
