-- Each name in the sim records of a flat circuit is a name of one of its nodes.
use Rattle.circuit_laws.proofs.Common.{◌≡◌, ℕ, List, [], ◌∷◌, ◌++◌, length, map, inl, inr, refl, sym, ◌∙◌, ap, subst, Option, Some, None, ℤ, find}
use Rattle.circuit_laws.proofs.Common.{bytes_eq, flat_map, All-contains, bytes_eq-Decides, In, Contains-from_In, In-append_cases, In-map}
use Rattle.circuit_laws.proofs.Common.{In-map_source, find-In, In-flat_map_source, Circuit, CellExt, FetRec, NodeRec, TermRec, IsLawful, IsLawfulFet}
use Rattle.circuit_laws.proofs.Common.{names_of, Element, name_in, AreFlatNodes, AreFlatFets, IsFlatFet, fets_in, fets_of, side_name, SimFet}
use Rattle.circuit_laws.proofs.Common.{aliases_of, cap_of, sim_of, switches_of}
use Rattle.finite_sets.proofs.Searches.{find-none, list_any-of_In}
use Rattle.full_names.specs.ExtModel.Lawful.{IsLawfulTerm}
use Rattle.full_names.specs.ExtModel.RecordNames.{node_names}
use Rattle.full_names.specs.CircuitModel.FlatNodes.{has_name}
use Rattle.full_names.specs.CircuitModel.FlatFets.{node_name}
use Rattle.full_names.specs.CircuitModel.Circuits.{IsCircuitOf}
use Rattle.sim_networks.specs.SwitchNet.SimRecords.{names_of_aliases, names_of_transistors}
use Rattle.sim_networks.specs.SwitchNet.SimRecords as Records
use Rattle.sim_networks.specs.SimNetworks.{records_of, transistor_of}
use Rattle.circuit_laws.proofs.FetSwitches.{nodes_at, switch_of_fet}

-- One of the nodes has the name.
pub record IsOfNode (nodes : List NodeRec) (name : List ℕ) : Type 0 where
  pub node : NodeRec
  pub within : In node nodes
  pub named : In name (names_of node)

-- where a node has the name, the preferred name that is found for it is one's
found_name : (nodes : List NodeRec) (name : List ℕ) → IsOfNode nodes name → IsOfNode nodes (node_name nodes name)
found_name nodes name of = step (find (λ (node : NodeRec). has_name node name) nodes) refl
  where
    step : (found : Option NodeRec) → find (λ (node : NodeRec). has_name node name) nodes ≡ found
        → IsOfNode nodes (elim found [ Some node ↦ node.name | None ↦ [] ])
    step (Some node) is = record { node = node; within = find-In (λ (node : NodeRec). has_name node name) nodes node is; named = inl refl }
    step None none =
        let differ = find-none (λ (node : NodeRec). has_name node name) nodes of.node none of.within in
        let same = list_any-of_In bytes_eq bytes_eq-Decides name (names_of of.node) of.named in
        absurd (cc)

-- ---- the names of transistors

-- The gate and the terminals of the transistor are of nodes.
record StandsAmongNodes (nodes : List NodeRec) (fet : FetRec) : Type 0 where
  gate : IsOfNode nodes fet.gate.node
  terminals : (name : List ℕ) → In name (nodes_at fet.terminals) → IsOfNode nodes name

module _ (elements : List Element) (classes : ℕ) (nodes : List NodeRec) (are : AreFlatNodes elements classes nodes) where
  -- the name at a gate or a terminal of an element's transistor is of a node
  side_named : (element : Element) → In element elements → (side : TermRec) → IsLawfulTerm element.ext side
      → IsOfNode nodes (side_name nodes element side)
  side_named element within side lawful =
      let full = In-map (name_in element) side.node (node_names element.ext) lawful.node in
      let total = are.total (name_in element side.node) (element, (within, full)) in
      found_name nodes (name_in element side.node) (record { node = total.0; within = total.1.0; named = total.1.1 })

  -- and so are those of the flat transistor
  flat_fet : (element : Element) → In element elements → (fet flat : FetRec) → IsLawfulFet element.ext fet
      → IsFlatFet nodes element fet flat → StandsAmongNodes nodes flat
  flat_fet element within fet flat lawful is = record {
    gate = subst (IsOfNode nodes) (sym is.gate) (side_named element within fet.gate lawful.gate);
    terminals = λ name here.
        (let part = In-map_source (side_name nodes element) name fet.terminals ((is.terminals name).0 here) in
        let part_lawful = All-contains (IsLawfulTerm element.ext) fet.terminals part.0 lawful.terminals
        (Contains-from_In part.0 fet.terminals part.1.0) in
        subst (IsOfNode nodes) part.1.1 (side_named element within part.0 part_lawful));
  }

  -- and of each flat transistor
  flat_fets : (fets : List (Element × FetRec)) (flats : List FetRec) → AreFlatFets nodes fets flats
      → ((fet : Element × FetRec) → In fet fets → In fet.0 elements × IsLawfulFet fet.0.ext fet.1) → (flat : FetRec) → In flat flats
      → StandsAmongNodes nodes flat
  flat_fets [] [] fit each flat absent = absurd absent
  flat_fets [] (one ∷ flats) fit each flat here = absurd fit
  flat_fets (fet ∷ fets) [] fit each flat absent = absurd absent
  flat_fets (fet ∷ fets) (one ∷ flats) fit each flat (inl same) =
      let from = each fet (inl refl) in subst (StandsAmongNodes nodes) same (flat_fet fet.0 from.0 fet.1 one from.1 fit.0)
  flat_fets (fet ∷ fets) (one ∷ flats) fit each flat (inr later) =
      flat_fets fets flats fit.1 (λ other there. each other (inr there)) flat later

-- a transistor of lawful elements is a lawful one of its element
of_elements : (elements : List Element) → ((element : Element) → In element elements → IsLawful element.ext) → (fet : Element × FetRec)
    → In fet (fets_of elements) → In fet.0 elements × IsLawfulFet fet.0.ext fet.1
of_elements elements lawful fet here =
    let source = In-flat_map_source fets_in fet elements here in
    let pair = In-map_source (λ (one : FetRec). (source.0, one)) fet source.0.ext.fets source.1.1 in
    let is = All-contains (IsLawfulFet source.0.ext) source.0.ext.fets pair.0 (lawful source.0 source.1.0).fets
    (Contains-from_In pair.0 source.0.ext.fets pair.1.0) in
    subst (λ (one : Element × FetRec). In one.0 elements × IsLawfulFet one.0.ext one.1) pair.1.1 (source.1.0, is)

-- ---- the names of switches

module _ (nodes : List NodeRec) where
  -- The names of the switch are of nodes.
  record LeadsToNodes (switch : SimFet) : Type 0 where
    gate : IsOfNode nodes switch.gate
    source : IsOfNode nodes switch.source
    drain : IsOfNode nodes switch.drain

  of_fet : (fet : FetRec) → StandsAmongNodes nodes fet → (switch : SimFet) → In switch (switches_of fet) → LeadsToNodes switch
  of_fet fet stands switch here =
      let is = switch_of_fet fet switch here in record {
        gate = subst (IsOfNode nodes) (sym is.gate) stands.gate;
        source = stands.terminals switch.source is.source;
        drain = stands.terminals switch.drain is.drain;
      }

  of_switches : (switches : List SimFet) → ((switch : SimFet) → In switch switches → LeadsToNodes switch) → (name : List ℕ)
      → In name (names_of_transistors (map transistor_of switches)) → IsOfNode nodes name
  of_switches [] each name absent = absurd absent
  of_switches (switch ∷ switches) each name (inl same) = subst (IsOfNode nodes) same (each switch (inl refl)).gate
  of_switches (switch ∷ switches) each name (inr (inl same)) = subst (IsOfNode nodes) same (each switch (inl refl)).source
  of_switches (switch ∷ switches) each name (inr (inr (inl same))) = subst (IsOfNode nodes) same (each switch (inl refl)).drain
  of_switches (switch ∷ switches) each name (inr (inr (inr later))) = of_switches switches (λ one there. each one (inr there)) name later

  of_fets : (fets : List FetRec) → ((fet : FetRec) → In fet fets → StandsAmongNodes nodes fet) → (name : List ℕ)
      → In name (names_of_transistors (map transistor_of (flat_map switches_of fets))) → IsOfNode nodes name
  of_fets fets each = of_switches (flat_map switches_of fets)
      (λ switch here.
      let source = In-flat_map_source switches_of switch fets here in
      of_fet source.0 (each source.0 source.1.0) switch source.1.1)

  -- ---- the names of nodes

  of_caps : (name : List ℕ) → In name (map (λ cap. cap.0) (map cap_of nodes)) → IsOfNode nodes name
  of_caps name here =
      let cap = In-map_source (λ (cap : List ℕ × ℤ). cap.0) name (map cap_of nodes) here in
      let source = In-map_source cap_of cap.0 nodes cap.1.0 in
      record { node = source.0; within = source.1.0; named = inl (ap (λ (one : List ℕ × ℤ). one.0) source.1.1 ∙ cap.1.1) }

  -- where both of each pair are of nodes, all are
  of_pairs : (pairs : List (List ℕ × List ℕ))
      → ((pair : List ℕ × List ℕ) → In pair pairs → IsOfNode nodes pair.0 × IsOfNode nodes pair.1) → (name : List ℕ)
      → In name (names_of_aliases pairs) → IsOfNode nodes name
  of_pairs [] each name absent = absurd absent
  of_pairs (pair ∷ pairs) each name (inl same) = subst (IsOfNode nodes) same (each pair (inl refl)).0
  of_pairs (pair ∷ pairs) each name (inr (inl same)) = subst (IsOfNode nodes) same (each pair (inl refl)).1
  of_pairs (pair ∷ pairs) each name (inr (inr later)) = of_pairs pairs (λ one there. each one (inr there)) name later

  of_aliases : (name : List ℕ) → In name (names_of_aliases (flat_map aliases_of nodes)) → IsOfNode nodes name
  of_aliases = of_pairs (flat_map aliases_of nodes)
      (λ pair here.
      let source = In-flat_map_source aliases_of pair nodes here in
      let alias = In-map_source (λ (one : List ℕ). (source.0.name, one)) pair source.0.aliases source.1.1 in
      subst (λ (one : List ℕ × List ℕ). IsOfNode nodes one.0 × IsOfNode nodes one.1) alias.1.1 (
        record { node = source.0; within = source.1.0; named = inl refl },
        record { node = source.0; within = source.1.0; named = inr alias.1.0 },
      ))

-- each name in the sim records of a circuit of lawful elements is of one of its nodes
pub names_of_nodes : (elements : List Element) (root : CellExt) (circuit : Circuit)
    → ((element : Element) → In element elements → IsLawful element.ext) → IsCircuitOf elements root circuit → (name : List ℕ)
    → In name (Records.names_of (records_of (sim_of circuit))) → IsOfNode circuit.nodes name
names_of_nodes elements root circuit lawful is name here =
    let nodes = circuit.nodes in
    let switches = flat_map switches_of circuit.fets in
    let aliases = names_of_aliases (flat_map aliases_of nodes) in
    let caps = map (λ (cap : List ℕ × ℤ). cap.0) (map cap_of nodes) in
    let transistors = names_of_transistors (map transistor_of switches) in
    let stand = flat_fets elements (length root.classes) nodes is.nodes (fets_of elements) circuit.fets is.fets
    (of_elements elements lawful) in
    elim (In-append_cases name (transistors ++ caps) aliases here) [
      | inl front ↦ (elim (In-append_cases name transistors caps front) [
        | inl switch ↦ of_fets nodes circuit.fets stand name switch
        | inr charged ↦ of_caps nodes name charged
      ])
      | inr alias ↦ of_aliases nodes name alias
    ]
