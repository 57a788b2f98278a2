-- The network of a circuit has a node of each name of the circuit's nodes.
use Rattle.stack_nodes.proofs.Common.{◌∙◌, ℕ, ℤ, List, [], ◌∷◌, inl, inr, refl, sym, ap, subst, cases_Bool, In, In-map, Circuit, NodeRec}
use Rattle.std.proofs.Common.{◌++◌, map, true≢false}
use Rattle.std.specs.List.{flat_map}
use Rattle.std.specs.Str.{bytes_eq}
use Rattle.std.proofs.lemmas.Slice.Eq.{bytes_eq-Decides}
use Rattle.tech_model.proofs.GeoCore.FiniteSets.Images.{In-flat_map}
use Rattle.tech_model.proofs.GeoCore.FiniteSets.Members.{In-append_left, In-append_right}
use Rattle.sim_records.specs.SimRecords.{aliases_of, cap_of, sim_of}
use Rattle.sim_networks.specs.SimNetworks.{records_of}
use Rattle.switch_net.specs.Names.{HasName}
use Rattle.switch_net.specs.Network.{Network}
use Rattle.switch_net.specs.SimRecords.{IsNetworkOf, names_of, names_of_aliases, names_of_transistors}
use Rattle.stack_nodes.specs.StackNodes.{HasNodeOfName, NetworkHasName, StackNetworksHaveTheirNodes}
use Rattle.stack_nodes.proofs.CircuitNodes.{stack_circuits_have_their_nodes}

-- a name that has a node is found
found : (names : List (List ℕ × ℕ)) (v : ℕ) (name : List ℕ) → HasName names v name → NetworkHasName names name
found [] v name none = absurd none
found (named ∷ names) v name here = elim (cases_Bool (bytes_eq named.0 name)) [
  | inl same ↦ (named.1, rw same refl)
  | inr other ↦ elim here [
    | inl first ↦ absurd (true≢false (sym ((bytes_eq-Decides named.0 name).1 (ap (λ (pair : List ℕ × ℕ). pair.0) first)) ∙ other))
    | inr later ↦ (let rest = found names v name later in (rest.0, rw other rest.1))
  ]
]

-- the second name of a pair is one of the names of the pairs
second_of : (pair : List ℕ × List ℕ) (pairs : List (List ℕ × List ℕ)) → In pair pairs → In pair.1 (names_of_aliases pairs)
second_of pair [] none = absurd none
second_of pair (one ∷ pairs) (inl same) = inr (inl (ap (λ (p : List ℕ × List ℕ). p.1) same))
second_of pair (one ∷ pairs) (inr later) = inr (inr (second_of pair pairs later))

-- a name of a node stands in the sim records
stands : (circuit : Circuit) (node : NodeRec) (name : List ℕ) → In node circuit.nodes → In name (node.name ∷ node.aliases)
    → In name (names_of (records_of (sim_of circuit)))
stands circuit node name listed named =
    let transistors = names_of_transistors (records_of (sim_of circuit)).transistors in
    let caps = map (λ (cap : List ℕ × ℤ). cap.0) (map cap_of circuit.nodes) in
    let aliases = names_of_aliases (flat_map aliases_of circuit.nodes) in
    elim named [
      | inl same ↦
          In-append_left name (transistors ++ caps) aliases (In-append_right name transistors caps
          (subst (λ (n : List ℕ). In n caps) same
          (In-map (λ (cap : List ℕ × ℤ). cap.0) (cap_of node) (map cap_of circuit.nodes) (In-map cap_of node circuit.nodes listed))))
      | inr alias ↦
          In-append_right name (transistors ++ caps) aliases
          (second_of (node.name, name) (flat_map aliases_of circuit.nodes)
          (In-flat_map aliases_of node (node.name, name) circuit.nodes listed
          (In-map (λ (n : List ℕ). (node.name, n)) name node.aliases alias)))
    ]

-- so the network has a node of it
network_has : (circuit : Circuit) (net : Network) (names : List (List ℕ × ℕ)) → IsNetworkOf (records_of (sim_of circuit)) net names → (name : List ℕ)
    → HasNodeOfName circuit.nodes name → NetworkHasName names name
network_has circuit net names is name has =
    let node = is.named name (stands circuit has.node name has.listed has.named) in
    found names node.0 name node.1

-- the network of a stack has its nodes
pub stack_networks_have_their_nodes : StackNetworksHaveTheirNodes
stack_networks_have_their_nodes before n circuit net names stack is =
    let nodes = stack_circuits_have_their_nodes before n circuit stack in
    record {
      rows = λ j below. network_has circuit net names is _ (nodes.rows j below);
      columns = λ i below. network_has circuit net names is _ (nodes.columns i below);
    }
