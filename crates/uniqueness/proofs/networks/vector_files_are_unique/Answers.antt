use Rattle.vector_runs.proofs.VectorFiles.Alike.{vectors-alike}
use Rattle.uniqueness.proofs.AlikeNames.{like_named}
use Rattle.uniqueness.proofs.SameNetworks.{one_node_each, same_names}
use Rattle.uniqueness.proofs.networks.vector_files_are_unique.Goals as goal

pub returns : goal.returns
returns c = λ records net other names others text p q.
    let alike = same_names records net other names others p q in
    let one = one_node_each records net names p.is_network in
    let also = one_node_each records other others q.is_network in
    vectors-alike names others (like_named names others one also alike) text
