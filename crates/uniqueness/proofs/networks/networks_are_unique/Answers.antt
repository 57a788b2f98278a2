use Rattle.uniqueness.proofs.SameNetworks.{same_names, same_network}
use Rattle.uniqueness.proofs.networks.networks_are_unique.Goals as goal

pub returns : goal.returns
returns c = λ records net other names others p q.
    (same_network records net other names others p q, same_names records net other names others p q)
