-- The network of a flat circuit has no more nodes than a network may have.
use Rattle.circuit_laws.proofs.Common.{length, elements_of}
use Rattle.sim_networks.specs.SwitchNet.declared.limits.TheConstants.{MOST_NODES}
use Rattle.circuit_laws.specs.NetworkLaws.{FlatNetworksFit}
use Rattle.circuit_laws.proofs.LawfulElements.{few_node_records, lawful_elements}
use Rattle.circuit_laws.proofs.FlatNames.{names_of_nodes}
use Rattle.circuit_laws.proofs.FewNodes.{few_nodes}

pub flat_networks_fit : FlatNetworksFit
flat_networks_fit exts root circuit records is =
    let elements = elements_of exts is.top in
    few_nodes elements (length is.top.classes) circuit is.meaning.nodes
    (names_of_nodes elements is.top circuit (lawful_elements exts root is.top records is.found) is.meaning) MOST_NODES
    (few_node_records exts is.top is.sound)
