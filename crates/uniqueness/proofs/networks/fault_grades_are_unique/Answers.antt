use Rattle.uniqueness.proofs.Common.{ap, Network}
use Rattle.uniqueness.proofs.AlikeNames.{like_named}
use Rattle.uniqueness.proofs.SameGrades.{faults_alike, grades_alike}
use Rattle.uniqueness.proofs.SameNetworks.{one_node_each, same_names, same_network}
use Rattle.uniqueness.proofs.networks.fault_grades_are_unique.Goals as goal

pub returns-clause-faults : goal.returns-clause-faults
returns-clause-faults c = λ records net other names others p q.
    let alike = same_names records net other names others p q in
    let one = one_node_each records net names p.is_network in
    let also = one_node_each records other others q.is_network in
    let same = same_network records net other names others p q in
    faults_alike names others (like_named names others one also alike).rails net.nodes other.nodes (ap (λ (of : Network). of.nodes) same)

pub returns-clause-grades : goal.returns-clause-grades
returns-clause-grades c = λ records net other names others budget vectors grades more p q are there.
    let alike = same_names records net other names others p q in
    let one = one_node_each records net names p.is_network in
    let also = one_node_each records other others q.is_network in
    let same = same_network records net other names others p q in
    grades_alike c.grades_are_unique.ensures net other names others same alike (like_named names others one also alike).rails budget vectors grades more are
    there
