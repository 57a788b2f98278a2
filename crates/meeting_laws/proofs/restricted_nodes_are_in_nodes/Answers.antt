use Rattle.meeting_laws.proofs.Common.{Passes}
use Rattle.meeting_laws.proofs.PartLinks.{node_of_whole, restricted_node_lifted}
use Rattle.meeting_laws.proofs.restricted_nodes_are_in_nodes.Goals as goal

pub returns : goal.returns
returns c =
    let raw = c.args.tech.now in
    λ rules within parts others restricted fine position part other there also a b chain. (
      node_of_whole (Passes within) parts others restricted raw position part other there also a b chain,
      restricted_node_lifted (Passes within) parts others restricted raw rules fine position part other there also a b chain,
    )
