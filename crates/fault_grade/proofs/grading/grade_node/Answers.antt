use Rattle.fault_grade.proofs.Common.{ℕ, ◌∷◌, ◌++◌, [], List, ap, subst, sym, ◌∙◌, AllZip, Zero, One, network_of, StuckFault, Graded, IsGrade}
use Rattle.fault_grade.proofs.Common.{faults_at}
use Rattle.switch_net.specs.Network.{Network}
use Rattle.fault_grade.proofs.GradeLaws.{two_more}
use Rattle.fault_grade.proofs.grading.grade_node.Goals as goal

pub returns-clause-graded : goal.returns-clause-graded
returns-clause-graded c = λ faults before.
    let net = network_of c.args.named.now.net in
    let names = c.args.named.now.names in
    let first = c.in_ok-grade_fault.ensures in
    let zero : StuckFault = record { node = c.args.node; value = Zero } in
    let one : StuckFault = record { node = c.args.node; value = One } in
    let low : IsGrade net names c.args.budget c.args.vectors.now zero c.in_ok-grade_fault.field-0 = rw c.faults_at.ensures at first.graded in
    let high : IsGrade (network_of c.grade_fault.new.named.net) c.grade_fault.new.named.names c.args.budget c.args.vectors.now one
    c.in_ok-grade_fault-2.field-0 =
    rw c.faults_at.ensures at c.in_ok-grade_fault-2.ensures.graded in
    let there = subst (λ (n : Network). IsGrade n c.grade_fault.new.named.names c.args.budget c.args.vectors.now one c.in_ok-grade_fault-2.field-0)
    first.network high in
    let here = subst (λ (l : List (List ℕ × ℕ)). IsGrade net l c.args.budget c.args.vectors.now one c.in_ok-grade_fault-2.field-0) first.names there in
    let both = two_more (IsGrade net names c.args.budget c.args.vectors.now) faults c.args.grades.now.items c.args.node c.in_ok-grade_fault.field-0
    c.in_ok-grade_fault-2.field-0 before low here in
    let items = c.in_ok-push-2.ensures.items ∙ ap (λ (all : List Graded). all ++ c.in_ok-grade_fault-2.field-0 ∷ []) c.in_ok-push.ensures.items in
    subst (AllZip (IsGrade net names c.args.budget c.args.vectors.now) (faults ++ faults_at c.args.node)) (sym items) both
