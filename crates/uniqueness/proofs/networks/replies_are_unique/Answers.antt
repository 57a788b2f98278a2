use Rattle.uniqueness.proofs.SameNetworks.{nodes_below, same_names, same_network}
use Rattle.uniqueness.proofs.SameReplies.{same_replies}
use Rattle.uniqueness.proofs.networks.replies_are_unique.Goals as goal

pub returns : goal.returns
returns c = λ records net other names others text budget vectors replies more p q read run also.
    let alike = same_names records net other names others p q in
    let below = nodes_below records net names p.is_network in
    let same = same_network records net other names others p q in
    same_replies names others alike c.runs_are_unique.ensures net other p.is_network.sound below same text budget vectors replies more read run also
