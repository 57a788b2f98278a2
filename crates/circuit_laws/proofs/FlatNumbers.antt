-- The nodes of the network of a flat circuit are those of the circuit, in the same order.
use Rattle.circuit_laws.proofs.Common.{◌≡◌, ℕ, List, [], ◌∷◌, map, length, inl, inr, refl, sym, ap, subst, ℤ, In, Chain-either_back}
use Rattle.circuit_laws.proofs.Common.{In-flat_map_source, In-map, In-map_source, Circuit, NodeRec, names_of, Element, elements_of, AreLinked}
use Rattle.circuit_laws.proofs.Common.{AreOneNode, AreFlatNodes, aliases_of, cap_of, sim_of, AreOfOneNode, IsAlias, SimRecords}
use Rattle.std.specs.Prelude.{AllPairs}
use Rattle.finite_sets.proofs.Chains.{Chain-either_through}
use Rattle.finite_sets.proofs.Pairs.{AllPairs-from_Pairwise, Pairwise-within}
use Rattle.full_names.specs.CircuitModel.FullNames.{IsFullName}
use Rattle.full_names.proofs.ExtModel.NameOrders.{name_cmp_total}
use Rattle.full_names.proofs.ListOrders.{StandsBefore, not_before_itself, pairwise_names}
use Rattle.sim_networks.specs.SwitchNet.SimRecords as Records
use Rattle.sim_networks.specs.SimNetworks.{HasNodeForEach, records_of}
use Rattle.sim_networks.proofs.NumberedNames.{node_for_each}
use Rattle.circuit_laws.specs.NetworkLaws.{FlatNetworksHaveTheNodes}
use Rattle.circuit_laws.proofs.FewNodes.{joined}
use Rattle.circuit_laws.proofs.FlatNames.{IsOfNode, names_of_nodes}
use Rattle.circuit_laws.proofs.LawfulElements.{lawful_elements}

-- the names of the capacitances are the preferred names of the nodes
caps_are_names : (nodes : List NodeRec) → map (λ (cap : List ℕ × ℤ). cap.0) (map cap_of nodes) ≡ map (λ (node : NodeRec). node.name) nodes
caps_are_names [] = refl
caps_are_names (node ∷ nodes) = ap (λ (rest : List (List ℕ)). node.name ∷ rest) (caps_are_names nodes)

module _ (elements : List Element) (classes : ℕ) (circuit : Circuit) (are : AreFlatNodes elements classes circuit.nodes) where
  abbrev records : SimRecords
  records = records_of (sim_of circuit)

  -- each name of a flat node is of one node with its preferred name
  of_one : (node : NodeRec) → In node circuit.nodes → (name : List ℕ) → In name (names_of node) → AreOneNode elements node.name name
  of_one node within name named = (((are.sound node within).names name).0 named).1

  -- so are the two names of an alias line
  alias_of_one : (a b : List ℕ) → IsAlias records a b → AreOneNode elements a b
  alias_of_one a b alias =
      let source = In-flat_map_source aliases_of (a, b) circuit.nodes alias in
      let pair = In-map_source (λ (one : List ℕ). (source.0.name, one)) (a, b) source.0.aliases source.1.1 in
      subst (λ (one : List ℕ × List ℕ). AreOneNode elements one.0 one.1) pair.1.1
      (of_one source.0 source.1.0 pair.0 (inr pair.1.0))

  -- and all that alias lines join
  joined_are_one : (a b : List ℕ) → AreOfOneNode records a b → AreOneNode elements a b
  joined_are_one a b chain = Chain-either_through (IsAlias records) (AreLinked elements) alias_of_one chain

  -- a node has no name before its preferred one
  preferred_first : (node : NodeRec) → In node circuit.nodes → (name : List ℕ) → In name (names_of node) → StandsBefore name node.name → ⊥
  preferred_first node within name (inl same) before = not_before_itself node.name (subst (λ (one : List ℕ). StandsBefore one node.name) (sym same) before)
  preferred_first node within name (inr later) before =
      not_before_itself name
      (name_cmp_total.trans name node.name name before ((pairwise_names (names_of node) (are.sound node within).in_order).0 name later))

  -- alias lines join no two preferred names
  apart : AllPairs (λ a b. ¬ (AreOfOneNode records a b)) (map (λ (node : NodeRec). node.name) circuit.nodes)
  apart =
      let preferred = map (λ (node : NodeRec). node.name) circuit.nodes in
      AllPairs-from_Pairwise (λ a b. ¬ (AreOfOneNode records a b)) preferred
      (Pairwise-within StandsBefore (λ a b. ¬ (AreOfOneNode records a b)) preferred
      (λ a b first second before chain.
      let one = In-map_source (λ (node : NodeRec). node.name) a circuit.nodes first in
      let other = In-map_source (λ (node : NodeRec). node.name) b circuit.nodes second in
      let way : AreOneNode elements other.0.name a =
      subst (λ (n : List ℕ). AreOneNode elements n a) (sym other.1.1) (Chain-either_back (AreLinked elements) (joined_are_one a b chain)) in
      let full = (((are.sound one.0 one.1.0).names one.0.name).0 (inl refl)).0 in
      let named : In a (names_of other.0) =
      ((are.sound other.0 other.1.0).names a).1 (subst (IsFullName elements) one.1.1 full, way) in
      preferred_first other.0 other.1.0 a named (subst (StandsBefore a) (sym other.1.1) before))
      (pairwise_names preferred are.in_order))

  -- each name in the sim records is of the node of one of them
  of_preferred : ((name : List ℕ) → In name (Records.names_of records) → IsOfNode circuit.nodes name) → (name : List ℕ)
      → In name (Records.names_of records)
      → (first : List ℕ) × In first (map (λ (node : NodeRec). node.name) circuit.nodes) × AreOfOneNode records first name
  of_preferred of name here =
      let node = of name here in (
        node.node.name,
        In-map (λ (one : NodeRec). one.name) node.node circuit.nodes node.within,
        joined elements classes circuit are node.node node.within name node.named,
      )

pub flat_networks_have_the_nodes : FlatNetworksHaveTheNodes
flat_networks_have_the_nodes exts root circuit net names are_records is network in_order =
    let elements = elements_of exts is.top in
    let classes = length is.top.classes in
    let caps = caps_are_names circuit.nodes in
    let named = names_of_nodes elements is.top circuit (lawful_elements exts root is.top are_records is.found) is.meaning in
    let records : SimRecords = records_of (sim_of circuit) in
    let of = of_preferred elements classes circuit is.meaning.nodes named in
    subst (λ (preferred : List (List ℕ)). HasNodeForEach preferred net names) caps
    (node_for_each records net names network in_order
    (subst (λ (preferred : List (List ℕ)). (name : List ℕ) → In name (Records.names_of records)
    → (first : List ℕ) × In first preferred × AreOfOneNode records first name) (sym caps) of)
    (subst (AllPairs (λ a b. ¬ (AreOfOneNode records a b))) (sym caps) (apart elements classes circuit is.meaning.nodes)))
