-- Sim records have as many nodes as a network of theirs.
use Rattle.uniqueness.proofs.Common.{◌<◌, ℕ, List, inl, inr, arith, cases_lt, Network, IsNetworkOf, SimRecords}
use Rattle.std.specs.Prelude.{◌↔◌}
use Rattle.network_commands.specs.SimNetworks.steps.Numbering.{AreNodesOf}
use Rattle.network_commands.specs.SimNetworks.SimNetworks.{HasMoreNodesThan}
use Rattle.network_commands.proofs.SimNetworks.CountLaws.{few_nodes, many_nodes}

module _ (records : SimRecords) (net : Network) (names : List (List ℕ × ℕ)) (is : IsNetworkOf records net names) where
  nodes_are : AreNodesOf records net.nodes names
  nodes_are = record { named = is.named; stands = is.stands; each_node = is.each_node; classes = is.classes }

  pub more_nodes : (most : ℕ) → HasMoreNodesThan most records ↔ (most < net.nodes)
  more_nodes most = (
    (λ more. elim (cases_lt most net.nodes) [
      | inl past ↦ past
      | inr within ↦ absurd (few_nodes records net.nodes names nodes_are most (omega (arith, within)) more)
    ]),
    many_nodes records net.nodes names nodes_are most,
  )
